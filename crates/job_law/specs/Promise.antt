-- The promise: what holds of every chain, at each of its links.
use Rattle.std.specs.Prelude.{◌≡◌, ℕ, ◌+◌, ◌≤◌, Bool, true, false, ◌⊎◌, List, [], ◌∷◌, ◌++◌, map, length, is_some, Some, ◌≢◌, nat_le}
use Rattle.std.specs.List.{AllByRecursion}
use Rattle.keys.specs.declared.address.Address.{Address}
use Rattle.lines.specs.Meaning.{Fitted, Meaning, is_awake, SameFixtures}
use Rattle.records.specs.Rows.{row_ranks}
use Rattle.records.specs.declared.record.Record.{Record}
use Rattle.walk_law.specs.Law.{ListsExactly, MoreFittedThan, most_questions}
use Rattle.walk_law.specs.declared.phase.Phase.{Phase}
use Rattle.walk_law.specs.declared.phase.Phase.TheVariants.{Walking, Walked, Laid, Set, Full, Contradicted}
use Rattle.job_law.specs.Chain.{State, state_line, with_job, with_closed, Link, opens, opens_again, runs, lays, commits, closes, Chain, begins, follows}
use Rattle.job_law.specs.Numbering.{assigned}
use Rattle.job_law.specs.Scene.{Scene, rows, places, closed_rows, closed_places}
use Rattle.job_law.specs.declared.call.Call.{Call}

-- The phases in which the search has ended and every fixture was found.
abbrev pub is_complete : Phase → Bool
is_complete Walking = false
is_complete Walked = true
is_complete Laid = true
is_complete Set = true
is_complete Full = false
is_complete Contradicted = false

-- The fixtures of a line hold the addresses that the rows of a book have for them.
pub record AddressesSet {K : Type 0} (rank : K → ℕ) (first count : ℕ) (m : Meaning K) (rows : List (Record K)) : Type 0 where
  -- Each row's fixture holds the address that the row has, and the row has its width.
  pub rows_are_on_the_line : AllByRecursion (λ row. (f : Fitted) × (m.at row.key ≡ Some f) × (f.width ≡ row.width) × (f.address ≡ row.address)) rows
  -- It is the one that lay's rule gives.
  pub numbered_by_the_rule : map (λ row. row.address) rows ≡ assigned first (map (λ row. row.width) rows)
  -- A fixture has an address exactly if its width is above 0.
  pub address_exactly_if_wide : (k : K) (f : Fitted) → m.at k ≡ Some f → is_some f.address ≡ nat_le 1 f.width
  -- No two spans overlap.
  pub spans_apart : (j k : K) (f g : Fitted) (a b : Address) → m.at j ≡ Some f → m.at k ≡ Some g → (rank j ≢ rank k)
      → f.address ≡ Some a
      → g.address ≡ Some b
      → (a.slot + f.width ≤ b.slot) ⊎ (b.slot + g.width ≤ a.slot)
  -- All lie within the addresses of the family.
  pub spans_within_the_family : (k : K) (f : Fitted) (a : Address) → m.at k ≡ Some f → f.address ≡ Some a
      → (first ≤ a.slot) × (a.slot + f.width ≤ first + count)

-- What is promised where a chain stands: of the line, the rows of the book, how many it could have, and the job's phase and
-- questions.
pub record Kept {K : Type 0} (rank : K → ℕ) (levels first count : ℕ) (m : Meaning K) (rows : List (Record K)) (places : ℕ) (phase : Phase) (questions : ℕ) : Type 0 where
  pub lists_every_fitted_key_once : is_complete phase ≡ true → ListsExactly rank m (row_ranks rank rows)
  pub asks_few_questions : questions ≤ most_questions levels (length rows)
  pub complete_only_if_not_more_are_fitted : is_complete phase ≡ true → MoreFittedThan rank m places → ⊥
  pub full_only_if_more_are_fitted : phase ≡ Full → MoreFittedThan rank m places
  pub never_contradicted : phase ≡ Contradicted → ⊥
  pub set_on_the_line : phase ≡ Set → AddressesSet rank first count m rows

module _ {K : Type 0} (rank : K → ℕ) (levels top first count : ℕ) where
  abbrev pub KeptIn : State K → Type 0
  KeptIn (with_job s) = Kept rank levels first count s.line (rows s) (places s) s.walk.phase s.walk.questions
  KeptIn (with_closed s) =
      Kept rank levels first count s.line (closed_rows s) (closed_places s) s.phase s.questions × ((k : K) → is_awake s.line k ≡ false)

  -- A run in walking that is granted enough ends the walk. (As full exactly if more keys are fitted than there are places,
  -- otherwise as walked: that is promised where it leads.)
  abbrev pub RunEnds : ℕ → Scene K → Scene K → Type 0
  RunEnds budget before after =
      before.walk.phase ≡ Walking
      → most_questions levels (places before) ≤ budget
      → (after.walk.phase ≡ Walked) ⊎ (after.walk.phase ≡ Full)

  -- What is promised of a link, besides where it leads.
  abbrev pub KeptLink : {s t : State K} {call : Call} → Link rank top first count s call t → Type 0
  KeptLink (opens o) = Unit {0}
  KeptLink (opens_again o) = Unit {0}
  KeptLink (runs {s} {t} {budget} r) = RunEnds budget s t
  KeptLink (lays l) = Unit {0}
  KeptLink (commits {s} {t} c) = s.walk.phase ≡ Laid → t.walk.phase ≡ Set
  KeptLink (closes e) = Unit {0}

  -- Where a link leads: the fixtures are those with which the chain began, and the promise is kept.
  pub record KeptAt (start : Meaning K) (s : State K) : Type 0 where
    pub same_fixtures : SameFixtures start (state_line s)
    pub kept : KeptIn s

  -- Every link of a chain is kept, and so is where each leads.
  abbrev pub Promised : {line : Meaning K} {memory : List (Record K)} {calls : List Call} {s : State K} → Chain rank top first count line memory calls s → Type 0
  Promised {line} (begins {t} o) = KeptAt line (with_job t)
  Promised {line} (follows {u = u} chain between link) = Promised chain × KeptLink link × KeptAt line u

  -- Every chain that ends where a call is made goes on with that call to where it leads, and is promised.
  abbrev pub GoesOn : State K → Call → State K → Type 0
  GoesOn s call t = (line : Meaning K) (memory : List (Record K)) (calls : List Call) → Chain rank top first count line memory calls s
      → (chain : Chain rank top first count line memory (calls ++ call ∷ []) t) × Promised chain

  -- A chain of these calls on this line and memory leads here, and is promised.
  abbrev pub LeadsHere : Meaning K → List (Record K) → List Call → State K → Type 0
  LeadsHere line memory calls s = (chain : Chain rank top first count line memory calls s) × Promised chain
