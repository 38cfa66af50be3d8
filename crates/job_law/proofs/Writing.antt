-- What a line means once the addresses of a book are written to its fixtures.
use Rattle.std.proofs.Common.{◌≡◌, ℕ, zero, suc, ◌<◌, Bool, true, false, cond, eqb, List, [], ◌∷◌, Some, None, Option, refl, ap, ◌∙◌, arith}
use Rattle.std.proofs.lemmas.Bool.{and_from, or_parts, eq-eqb, ne_eqb, le-leb, cond-true, cond-false}
use Rattle.std.specs.Option.{option_map}
use Rattle.std.specs.List.{AllByRecursion}
use Rattle.keys.specs.declared.address.Address.{Address}
use Rattle.lines.specs.Meaning.{Fitted, Meaning, is_fitted, is_awake}
use Rattle.lines.specs.Rules.{changed_at, with_address, set_answer, addressed, wide_there}
use Rattle.lines.proofs.Meanings.{live_addressed, fitted_addressed, awake_addressed_at}
use Rattle.records.specs.Rows.{row_ranks}
use Rattle.records.specs.declared.record.Record.{Record}
use Rattle.walk_law.specs.Ranks.{is_in, AscendsFrom}
use Rattle.walk_law.proofs.RankLists.{below_not_in}
use Rattle.job_law.specs.Numbering.{written_to, all_written, address_suits}

-- A row's fixture is fitted, with the width that the row has, and has no address at width 0.
abbrev pub OnLine : {K : Type 0} → Meaning K → Record K → Type 0
OnLine m row = (f : Fitted) × (m.at row.key ≡ Some f) × (f.width ≡ row.width) × (f.width ≡ 0 → f.address ≡ None)

-- It holds the row's address too.
abbrev pub HoldsAddress : {K : Type 0} → Meaning K → Record K → Type 0
HoldsAddress m row = (f : Fitted) × (m.at row.key ≡ Some f) × (f.width ≡ row.width) × (f.address ≡ row.address)

module _ {K : Type 0} (rank : K → ℕ) (first count : ℕ) where
  -- Writing changes nothing of another key.
  at_other : (m : Meaning K) (k j : K) (o : Option Address) → eqb (rank j) (rank k) ≡ false → (written_to rank first count m k o).at j ≡ m.at j
  unfolding addressed
  at_other m k j None apart = refl
  at_other m k j (Some a) apart = by (set_answer first count m k a)
    where
      by : (answer : Bool) → (cond answer (changed_at rank k (with_address a) m) m).at j ≡ m.at j
      by true = cond-false (eqb (rank j) (rank k)) (option_map (with_address a) (m.at j)) (m.at j) apart
      by false = refl

  pub at_unlisted : (m : Meaning K) (rows : List (Record K)) (j : K) → is_in (rank j) (row_ranks rank rows) ≡ false → (all_written rank first count m rows).at j ≡ m.at j
  unfolding is_in
  at_unlisted m [] j out = refl
  at_unlisted m (row ∷ rows) j out =
      let apart = or_parts (eqb (rank j) (rank row.key)) (is_in (rank j) (row_ranks rank rows)) out in
      at_unlisted (written_to rank first count m row.key row.address) rows j apart.1 ∙ at_other m row.key j row.address apart.0

  -- It gives a key the address that suits its width.
  at_itself : (m : Meaning K) (k : K) (w : ℕ) (o : Option Address) (f : Fitted) → m.live ≡ true → m.at k ≡ Some f → f.width ≡ w
      → (f.width ≡ 0 → f.address ≡ None)
      → address_suits first count w o ≡ true
      → (g : Fitted) × ((written_to rank first count m k o).at k ≡ Some g) × (g.width ≡ w) × (g.address ≡ o)
  unfolding addressed
  at_itself m k zero None f live at width bare suits = (f, at, width, bare width)
  at_itself m k zero (Some a) f live at width bare suits = cc
  at_itself m k (suc w) None f live at width bare suits = cc
  at_itself m k (suc w) (Some a) f live at width bare suits =
      let wide : wide_there (m.at k) ≡ true = ap wide_there at ∙ le-leb 1 f.width (omega arith) in
      let answer : set_answer first count m k a ≡ true = and_from _ _ live (and_from _ _ wide suits) in (
        with_address a f,
        ap (λ (n : Meaning K). n.at k) (cond-true (set_answer first count m k a) (changed_at rank k (with_address a) m) m answer)
            ∙ cond-true (eqb (rank k) (rank k)) (option_map (with_address a) (m.at k)) (m.at k) (eq-eqb (rank k) (rank k) refl)
            ∙ ap (option_map (with_address a)) at,
        width,
        refl,
      )

  live_written : (m : Meaning K) (k : K) (o : Option Address) → (written_to rank first count m k o).live ≡ m.live
  live_written m k None = refl
  live_written m k (Some a) = live_addressed rank m k first count a

  fitted_written : (m : Meaning K) (k : K) (o : Option Address) (j : K) → is_fitted (written_to rank first count m k o) j ≡ is_fitted m j
  fitted_written m k None j = refl
  fitted_written m k (Some a) j = fitted_addressed rank m k first count a j

  awake_written : (m : Meaning K) (k : K) (o : Option Address) (j : K) → is_awake (written_to rank first count m k o) j ≡ is_awake m j
  awake_written m k None j = refl
  awake_written m k (Some a) j = awake_addressed_at rank m k first count a j

  pub live_all_written : (m : Meaning K) (rows : List (Record K)) → (all_written rank first count m rows).live ≡ m.live
  live_all_written m [] = refl
  live_all_written m (row ∷ rows) = live_all_written (written_to rank first count m row.key row.address) rows ∙ live_written m row.key row.address

  pub fitted_all_written : (m : Meaning K) (rows : List (Record K)) (j : K) → is_fitted (all_written rank first count m rows) j ≡ is_fitted m j
  fitted_all_written m [] j = refl
  fitted_all_written m (row ∷ rows) j = fitted_all_written (written_to rank first count m row.key row.address) rows j ∙ fitted_written m row.key row.address j

  pub awake_all_written : (m : Meaning K) (rows : List (Record K)) (j : K) → is_awake (all_written rank first count m rows) j ≡ is_awake m j
  awake_all_written m [] j = refl
  awake_all_written m (row ∷ rows) j = awake_all_written (written_to rank first count m row.key row.address) rows j ∙ awake_written m row.key row.address j

  -- Rows behind one are of other keys, and on the line as before.
  still_on_line : (m : Meaning K) (row : Record K) (low : ℕ) (rows : List (Record K)) → rank row.key < low → AscendsFrom low (row_ranks rank rows)
      → AllByRecursion (OnLine m) rows
      → AllByRecursion (OnLine (written_to rank first count m row.key row.address)) rows
  still_on_line m row low [] less asc all = tt
  still_on_line m row low (x ∷ xs) less (at_x, asc) (here, all) = (
    (here.0, at_other m row.key x.key row.address (ne_eqb _ _ (λ e. omega arith)) ∙ here.1, here.2, here.3),
    still_on_line m row (suc (rank x.key)) xs (omega arith) asc all,
  )

  -- Each row's fixture holds its address, once all are written.
  pub all_hold : (m : Meaning K) (low : ℕ) (rows : List (Record K)) → AscendsFrom low (row_ranks rank rows) → m.live ≡ true → AllByRecursion (OnLine m) rows
      → AllByRecursion (λ row. address_suits first count row.width row.address ≡ true) rows
      → AllByRecursion (HoldsAddress (all_written rank first count m rows)) rows
  all_hold m low [] asc live on_line suits = tt
  all_hold m low (row ∷ rows) (at, asc) live (here, on_line) (suit, suits) =
      let x = rank row.key in
      let n = written_to rank first count m row.key row.address in
      let held = at_itself m row.key row.width row.address here.0 live here.1 here.2 here.3 suit in
      let untouched = at_unlisted n rows row.key (below_not_in (suc x) x (row_ranks rank rows) asc (omega arith)) in (
        (held.0, untouched ∙ held.1, held.2, held.3),
        all_hold n (suc x) rows asc (live_written m row.key row.address ∙ live) (still_on_line m row (suc x) rows (omega arith) asc on_line) suits,
      )
