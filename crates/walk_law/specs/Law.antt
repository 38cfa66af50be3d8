-- The law of the walk, over whole runs.
use Rattle.std.specs.Prelude.{◌≡◌, ℕ, suc, ◌+◌, ◌*◌, ◌<◌, ◌≤◌, true, ◌⊎◌, List, map, length, is_some, Result}
use Rattle.std.specs.List.{AllByRecursion}
use Rattle.refusals.specs.declared.Refusal.{Refusal}
use Rattle.lines.specs.Meaning.{Meaning, is_fitted, is_awake}
use Rattle.walk_law.specs.Ranks.{is_in, Ascends}
use Rattle.walk_law.specs.Run.{Steps}
use Rattle.walk_law.specs.Walk.{Walk, begun, asked, heard, heard_by_rules, told}
use Rattle.walk_law.specs.declared.phase.Phase.TheVariants.{Walking, Walked, Full}
use Rattle.walk_law.specs.declared.question.Answer.{Answer}

-- A walk that answers of any kind have led to, honest or not.
pub data Answered (top places : ℕ) : Walk → Type 0 where
  at_first : Answered top places (begun top)
  then_heard : {w : Walk} (a : Answer ℕ) → Answered top places w → Answered top places (heard places w a)

-- A walk that a line has led to, from all fitted keys awake, and what the line means then.
pub record Reached {K : Type 0} (rank : K → ℕ) (top places : ℕ) (m : Meaning K) (w : Walk) : Type 0 where
  pub start : Meaning K
  pub start_live : start.live ≡ true
  pub start_awake : (k : K) → is_awake start k ≡ is_fitted start k
  pub answers : ℕ
  pub steps : Steps rank places start (begun top) answers m w

-- Every fitted key is listed exactly once, in ascending order, and no other key.
pub record ListsExactly {K : Type 0} (rank : K → ℕ) (m : Meaning K) (listed : List ℕ) : Type 0 where
  pub ascending : Ascends listed
  pub every_fitted_key : (k : K) → is_fitted m k ≡ true → is_in (rank k) listed ≡ true
  pub no_other_key : (k : K) → is_in (rank k) listed ≡ true → is_fitted m k ≡ true

-- More than so many keys are fitted: there are that many and one more, in ascending order.
pub record MoreFittedThan {K : Type 0} (rank : K → ℕ) (m : Meaning K) (n : ℕ) : Type 0 where
  pub keys : List K
  pub count : length keys ≡ suc n
  pub different : Ascends (map rank keys)
  pub all_fitted : AllByRecursion (λ k. is_fitted m k ≡ true) keys

-- The most questions that are asked with so many keys listed, in a family of so many levels.
abbrev pub most_questions : ℕ → ℕ → ℕ
most_questions levels listed = suc listed * (3 * levels + 2)

-- Whatever is answered: few ranges are pending, the memory suffices for the next answer too, and the book ascends.
pub record KeepsInBounds (levels places : ℕ) (w : Walk) : Type 0 where
  pub few_ranges_pending : length w.pending ≤ suc levels
  pub memory_suffices : (a : Answer ℕ) → heard places w a ≡ heard_by_rules places w a
  pub book_ascends : Ascends w.listed
  pub book_has_places : length w.listed ≤ places

-- On a line: what a walk has found, how much it has asked, and how it ends.
pub record FindsEveryFixture {K : Type 0} (rank : K → ℕ) (levels places : ℕ) (m : Meaning K) (w : Walk) : Type 0 where
  pub walked_lists_every_fitted_key_once : w.phase ≡ Walked → ListsExactly rank m w.listed
  pub asks_few_questions : w.questions ≤ most_questions levels (length w.listed)
  pub walking_has_a_question : w.phase ≡ Walking → is_some (asked w) ≡ true
  pub still_walking_asked_less : w.phase ≡ Walking → w.questions < most_questions levels places
  pub ends_walked_or_full : (w.phase ≡ Walking) ⊎ ((w.phase ≡ Walked) ⊎ (w.phase ≡ Full))
  pub full_if_more_fitted_than_places : w.phase ≡ Full → MoreFittedThan rank m places
  pub walked_if_not_more_fitted : w.phase ≡ Walked → MoreFittedThan rank m places → ⊥

-- An honest answer is heard: it counts one question, is not refused, and leads to a walk that the line has led to.
pub record LeadsOn {K : Type 0} (rank : K → ℕ) (top places : ℕ) (n : Meaning K) (w v : Walk) (r : Result (Unit {0}) Refusal) : Type 0 where
  pub reached_again : Reached rank top places n v
  pub counted : v.questions ≡ suc w.questions
  pub not_refused : r ≡ told v.phase
