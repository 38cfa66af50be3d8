-- Where rows are and go.
use Rattle.std.proofs.Common.{◌≡◌, ℕ, suc, ◌+◌, ◌-◌, ◌<◌, ◌≤◌, Bool, true, false, cond, ◌||◌, eqb, ltb, List, [], ◌∷◌, ◌++◌, length, take, drop, set, sym, refl, ap, ◌∙◌, one-add, arith}
use borrow.Rule.Slice.PartMut.{put_mid}
use Rattle.std.proofs.lemmas.List.{append_assoc, length-take-le, length-drop, length-append, set_split, drop-append-le, take_at, drop_at, take-set-le, take-take, drop-drop, drop-set-lt}
use Rattle.std.specs.List.{insert, list_any}
use Rattle.std.proofs.lemmas.List.Edits.{length-insert}
use Rattle.std.proofs.lemmas.List.Sums.{prefix_len-le-length}
use Rattle.walk_law.specs.Ranks.{is_in, put_in}
use Rattle.records.specs.Rows.{row_ranks, new_record, place_of, with_key}
use Rattle.records.specs.declared.record.Record.{Record}

-- A rank is in the rows if one of them has its key.
pub in_rows : {K : Type 0} (rank : K → ℕ) (j : ℕ) (rows : List (Record K)) → list_any (λ (row : Record K). eqb j (rank row.key)) rows ≡ is_in j (row_ranks rank rows)
unfolding is_in
in_rows rank j [] = refl
in_rows rank j (row ∷ rows) = ap (λ t. eqb j (rank row.key) || t) (in_rows rank j rows)

-- A record that is written behind so many others and then rotated to its place stands there, and those behind it have
-- moved up by one.
module _ {X : Type 0} (xs : List X) (n p : ℕ) (x : X) (room : n < length xs) (early : p ≤ n) where
  abbrev front : List X
  front = take n xs

  written : set xs n x ≡ front ++ x ∷ drop (suc n) xs
  written = set_split xs n x room

  part_is : take (n + 1 - p) (drop p (set xs n x)) ≡ drop p front ++ x ∷ []
  part_is =
      let long : length front ≡ n = length-take-le n xs (omega arith) in
      let behind : length (drop p front) ≡ n - p = simp length-drop (omega arith) in
      ap (λ l. take (n + 1 - p) (drop p l)) written
      ∙ ap (take (n + 1 - p)) (drop-append-le p front (x ∷ drop (suc n) xs) (omega arith))
      ∙ ap (take (n + 1 - p)) (sym (append_assoc (drop p front) (x ∷ []) (drop (suc n) xs)))
      ∙ take_at (drop p front ++ x ∷ []) (drop (suc n) xs) (n + 1 - p) (simp length-append (omega arith))

  pub rotated_in : (part : List X)
      → part ≡ drop (length (take (n + 1 - p) (drop p (set xs n x))) - 1) (take (n + 1 - p) (drop p (set xs n x)))
      ++ take (length (take (n + 1 - p) (drop p (set xs n x))) - 1) (take (n + 1 - p) (drop p (set xs n x)))
      → put_mid p (n + 1 - p) (set xs n x) part ≡ insert front p x ++ drop (suc n) xs
  rotated_in part is =
      let rest = drop p front in
      let last : length (rest ++ x ∷ []) - 1 ≡ length rest = simp length-append (omega arith) in
      let turned : part ≡ x ∷ rest =
      is
      ∙ ap (λ l. drop (length l - 1) l ++ take (length l - 1) l) part_is
      ∙ ap (λ i. drop i (rest ++ x ∷ []) ++ take i (rest ++ x ∷ [])) last
      ∙ ap (λ l. l ++ take (length rest) (rest ++ x ∷ [])) (drop_at rest (x ∷ []) (length rest) refl)
      ∙ ap (λ l. x ∷ l) (take_at rest (x ∷ []) (length rest) refl) in
      let before : take p (set xs n x) ≡ take p front = take-set-le p xs n x early ∙ sym (take-take p n xs early) in
      let after : drop (n + 1 - p) (drop p (set xs n x)) ≡ drop (suc n) xs =
      drop-drop (n + 1 - p) p (set xs n x) ∙ ap (λ i. drop i (set xs n x)) (whole) ∙ drop-set-lt (suc n) xs n x (omega arith) in
      ap (λ l. take p (set xs n x) ++ (l ++ drop (n + 1 - p) (drop p (set xs n x)))) turned
      ∙ ap (λ l. l ++ ((x ∷ rest) ++ drop (n + 1 - p) (drop p (set xs n x)))) before
      ∙ ap (λ l. take p front ++ ((x ∷ rest) ++ l)) after
      ∙ sym (append_assoc (take p front) (x ∷ rest) (drop (suc n) xs))
    where
      whole : p + (n + 1 - p) ≡ suc n
      whole = omega arith

-- By rank, a key is listed where it belongs among ascending ranks.
module _ {K : Type 0} (rank : K → ℕ) (key : K) where
  ranks_inserted : (rows : List (Record K))
      → row_ranks rank (insert rows (place_of rank (rank key) rows) (new_record key)) ≡ put_in (rank key) (row_ranks rank rows)
  unfolding put_in
  ranks_inserted [] = refl
  ranks_inserted (row ∷ rows) = by_order (ranks_inserted rows) (ltb (rank row.key) (rank key))
    where
      by_order : row_ranks rank (insert rows (place_of rank (rank key) rows) (new_record key)) ≡ put_in (rank key) (row_ranks rank rows)
          → (t : Bool)
          → row_ranks rank (insert (row ∷ rows) (cond t (1 + place_of rank (rank key) rows) 0) (new_record key))
          ≡ cond t (rank row.key ∷ put_in (rank key) (row_ranks rank rows)) (rank key ∷ rank row.key ∷ row_ranks rank rows)
      by_order rest true =
          ap (λ i. row_ranks rank (insert (row ∷ rows) i (new_record key))) (one-add (place_of rank (rank key) rows))
          ∙ ap (λ l. rank row.key ∷ l) rest
      by_order rest false = refl

  pub ranks_with_key : (rows : List (Record K)) → row_ranks rank (with_key rank key rows) ≡ put_in (rank key) (row_ranks rank rows)
  unfolding with_key
  ranks_with_key rows = ranks_inserted rows

  pub length-with_key : (rows : List (Record K)) → length (with_key rank key rows) ≡ suc (length rows)
  unfolding with_key
  length-with_key rows =
      let long = length-insert rows (place_of rank (rank key) rows) (new_record key) (prefix_len-le-length (λ row. ltb (rank row.key) (rank key)) rows) in
      omega arith
