-- Rows that are numbered one after the other have spans of their own.
use Rattle.std.proofs.Common.{◌≡◌, ℕ, zero, suc, ◌+◌, ◌≤◌, true, eqb, ◌⊎◌, List, [], ◌∷◌, map, length, Some, sum, Option, sym, refl, ap, ◌∙◌, inl, inr, arith}
use Rattle.std.proofs.lemmas.List.Sums.{sum_by-cons}
use Rattle.std.proofs.lemmas.Bool.{and_from, le-leb, lt-ltb, or_cases, eqb-true}
use Rattle.std.specs.List.{AllByRecursion}
use Rattle.keys.specs.declared.address.Address.{Address}
use Rattle.lines.specs.Meaning.{Meaning}
use Rattle.lines.specs.Rules.{query_answer}
use Rattle.records.specs.Rows.{row_ranks}
use Rattle.records.specs.declared.record.Record.{Record}
use Rattle.walk_law.specs.Ranks.{is_in}
use Rattle.job_law.specs.Numbering.{address_at, assigned, width_of, told_widths, numbered, address_suits}

abbrev pub widths : {K : Type 0} → List (Record K) → List ℕ
widths rows = map (λ row. row.width) rows

-- Each row has the address of its width, from a slot on.
abbrev pub NumberedFrom : {K : Type 0} → ℕ → List (Record K) → Type 0
NumberedFrom next [] = Unit {0}
NumberedFrom next (row ∷ rows) = (row.address ≡ address_at next row.width) × NumberedFrom (next + row.width) rows

-- The address of a width above 0 is the slot that was next, and one of the family's where there are enough.
suits : (first count next w : ℕ) → first ≤ next → next + w ≤ first + count → address_suits first count w (address_at next w) ≡ true
suits first count next zero low high = refl
suits first count next (suc w) low high = and_from _ _ (le-leb first next low) (lt-ltb next (first + count) (omega arith))

here_within : (next w : ℕ) (o : Option Address) → o ≡ address_at next w → (a : Address) → o ≡ Some a → (next ≡ a.slot)
here_within next zero o e a is = cc
here_within next (suc w) o e a is = let same : record { slot = next } ≡ a = cc in ap (λ (x : Address). x.slot) same

module _ {K : Type 0} where
  -- That is the rule by which addresses are assigned.
  pub by_the_rule : (next : ℕ) (rows : List (Record K)) → NumberedFrom next rows → map (λ row. row.address) rows ≡ assigned next (widths rows)
  by_the_rule next [] n = refl
  by_the_rule next (row ∷ rows) (here, n) = λ i. here i ∷ by_the_rule (next + row.width) rows n i

  -- Numbering gives it.
  pub numbered_is : (next : ℕ) (m : Meaning K) (rows : List (Record K)) → NumberedFrom next (numbered next m rows)
  numbered_is next m [] = tt
  numbered_is next m (row ∷ rows) = (refl, numbered_is (next + width_of (query_answer m row.key)) m rows)

  pub numbered_widths : (next : ℕ) (m : Meaning K) (rows : List (Record K)) → widths (numbered next m rows) ≡ told_widths m rows
  numbered_widths next m [] = refl
  numbered_widths next m (row ∷ rows) = ap (λ ws. width_of (query_answer m row.key) ∷ ws) (numbered_widths (next + width_of (query_answer m row.key)) m rows)

  pub numbered_ranks : (rank : K → ℕ) (next : ℕ) (m : Meaning K) (rows : List (Record K)) → row_ranks rank (numbered next m rows) ≡ row_ranks rank rows
  numbered_ranks rank next m [] = refl
  numbered_ranks rank next m (row ∷ rows) = ap (λ ranks. rank row.key ∷ ranks) (numbered_ranks rank (next + width_of (query_answer m row.key)) m rows)

  pub numbered_length : (next : ℕ) (m : Meaning K) (rows : List (Record K)) → length (numbered next m rows) ≡ length rows
  numbered_length next m [] = refl
  numbered_length next m (row ∷ rows) = ap suc (numbered_length (next + width_of (query_answer m row.key)) m rows)

  -- Addresses suit their widths where there are enough of them.
  module _ (first count : ℕ) where
    pub all_suit : (next : ℕ) (rows : List (Record K)) → NumberedFrom next rows → first ≤ next → next + sum (widths rows) ≤ first + count
        → AllByRecursion (λ row. address_suits first count row.width row.address ≡ true) rows
    all_suit next [] n low high = tt
    all_suit next (row ∷ rows) (here, n) low high =
        let total = sum_by-cons (λ x. x) row.width (widths rows) in (
          ap (address_suits first count row.width) here ∙ suits first count next row.width low (omega arith),
          all_suit (next + row.width) rows n (omega arith) (omega arith),
        )

  -- The span of a row lies within what its list is given.
  abbrev pub Within : ℕ → ℕ → Record K → Type 0
  Within low high row = (a : Address) → row.address ≡ Some a → (low ≤ a.slot) × (a.slot + row.width ≤ high)

  within_more : (low low' high high' : ℕ) → low' ≤ low → high ≤ high' → (row : Record K) → Within low high row → Within low' high' row
  within_more low low' high high' l h row w a is = let p = w a is in (omega arith, omega arith)

  all_within : (low low' high high' : ℕ) → low' ≤ low → high ≤ high' → (rows : List (Record K)) → AllByRecursion (Within low high) rows → AllByRecursion (Within low' high') rows
  all_within low low' high high' l h [] all = tt
  all_within low low' high high' l h (row ∷ rows) (here, all) = (within_more low low' high high' l h row here, all_within low low' high high' l h rows all)

  pub spans_lie : (next : ℕ) (rows : List (Record K)) → NumberedFrom next rows → AllByRecursion (Within next (next + sum (widths rows))) rows
  spans_lie next [] n = tt
  spans_lie next (row ∷ rows) (here, n) =
      let total = sum_by-cons (λ x. x) row.width (widths rows) in (
        λ a is. let at = here_within next row.width row.address here a is in (omega arith, omega arith),
        all_within (next + row.width) next (next + row.width + sum (widths rows)) (next + sum (widths (row ∷ rows))) (omega arith) (omega arith) rows
            (spans_lie (next + row.width) rows n),
      )

  -- A row of a list.
  abbrev pub Among : Record K → List (Record K) → Type 0
  Among row [] = ⊥
  Among row (x ∷ xs) = (row ≡ x) ⊎ Among row xs

  pub among_all : (P : Record K → Type 0) (row : Record K) (rows : List (Record K)) → AllByRecursion P rows → Among row rows → P row
  among_all P row [] all in' = absurd in'
  among_all P row (x ∷ xs) (here, all) (inl e) = rw e here
  among_all P row (x ∷ xs) (here, all) (inr in') = among_all P row xs all in'

  pub among_listed : (rank : K → ℕ) (j : ℕ) (rows : List (Record K)) → is_in j (row_ranks rank rows) ≡ true → (row : Record K) × Among row rows × (rank row.key ≡ j)
  unfolding is_in
  among_listed rank j [] is = cc
  among_listed rank j (x ∷ xs) is = by (λ in_rest. among_listed rank j xs in_rest) (or_cases (eqb j (rank x.key)) (is_in j (row_ranks rank xs)) is)
    where
      by : (is_in j (row_ranks rank xs) ≡ true → (row : Record K) × Among row xs × (rank row.key ≡ j))
          → (eqb j (rank x.key) ≡ true) ⊎ (is_in j (row_ranks rank xs) ≡ true)
          → (row : Record K) × Among row (x ∷ xs) × (rank row.key ≡ j)
      by rest (inl e) = (x, inl refl, sym (eqb-true _ _ e))
      by rest (inr in_rest) = let found = rest in_rest in (found.0, inr found.1, found.2)

  -- Two rows of different keys have spans apart.
  pub rows_apart : (rank : K → ℕ) (next : ℕ) (rows : List (Record K)) → NumberedFrom next rows → (r s : Record K) → Among r rows → Among s rows
      → (rank r.key ≡ rank s.key → ⊥)
      → (a b : Address) → r.address ≡ Some a → s.address ≡ Some b
      → (a.slot + r.width ≤ b.slot) ⊎ (b.slot + s.width ≤ a.slot)
  rows_apart rank next [] n r s in_r in_s differ a b at_r at_s = absurd in_r
  rows_apart rank next (x ∷ xs) (here, n) r s (inl er) (inl es) differ a b at_r at_s = absurd (differ (ap (λ (y : Record K). rank y.key) (er ∙ sym es)))
  rows_apart rank next (x ∷ xs) (here, n) r s (inl er) (inr in_s) differ a b at_r at_s =
      let behind = among_all _ s xs (spans_lie (next + x.width) xs n) in_s b at_s in
      let at = here_within next x.width x.address here a (ap (λ (y : Record K). y.address) (sym er) ∙ at_r) in
      let wide = ap (λ (y : Record K). y.width) er in
      inl (omega (arith, behind))
  rows_apart rank next (x ∷ xs) (here, n) r s (inr in_r) (inl es) differ a b at_r at_s =
      let behind = among_all _ r xs (spans_lie (next + x.width) xs n) in_r a at_r in
      let at = here_within next x.width x.address here b (ap (λ (y : Record K). y.address) (sym es) ∙ at_s) in
      let wide = ap (λ (y : Record K). y.width) es in
      inr (omega (arith, behind))
  rows_apart rank next (x ∷ xs) (here, n) r s (inr in_r) (inr in_s) differ a b at_r at_s =
      rows_apart rank (next + x.width) xs n r s in_r in_s differ a b at_r at_s

  -- Each row's span lies within the family.
  pub row_within : (first count : ℕ) (rows : List (Record K)) → NumberedFrom first rows → sum (widths rows) ≤ count → (r : Record K) → Among r rows
      → (a : Address) → r.address ≡ Some a → (first ≤ a.slot) × (a.slot + r.width ≤ first + count)
  row_within first count rows n few r in_r a at =
      let lies = among_all _ r rows (spans_lie first rows n) in_r a at in
      (lies.0, omega (arith, lies.1))
