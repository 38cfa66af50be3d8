-- Each call of a job, as a relation between what it finds and what it leaves.
use Rattle.std.specs.Prelude.{◌≡◌, ℕ, suc, ◌^◌, ◌<◌, ◌≤◌, Bool, true, false, cond, not, ◌⊎◌, List, ◌++◌, drop, Some, None, Ok, Err, sum, Option, Result, nat_lt}
use Rattle.lines.specs.Meaning.{Meaning, Sound}
use Rattle.lines.specs.Rules.{roused, rested}
use Rattle.records.specs.Rows.{with_key}
use Rattle.records.specs.declared.record.Record.{Record}
use Rattle.refusals.specs.declared.Refusal.{Refusal}
use Rattle.refusals.specs.declared.Refusal.TheVariants.{WrongPhase, QuestionsSpent, BookFull, Contradicted as SaysContradicted, NoAnswer, TooWide}
use Rattle.walk_law.specs.Listing.{lists_key}
use Rattle.walk_law.specs.Phases.{is_walking}
use Rattle.walk_law.specs.Run.{Honest, answer_ranks}
use Rattle.walk_law.specs.Walk.{begun, asked, heard}
use Rattle.walk_law.specs.declared.phase.Phase.{Phase}
use Rattle.walk_law.specs.declared.phase.Phase.TheVariants.{Walking, Walked, Laid, Set, Full, Contradicted}
use Rattle.walk_law.specs.declared.question.Answer.{Answer}
use Rattle.job_law.specs.Numbering.{asked_widths, all_answered, told_widths, numbered, all_stand, all_written}
use Rattle.job_law.specs.Scene.{Scene, ClosedScene, rows, places, in_phase}
use Rattle.job_law.specs.declared.call.Ran.{Ran}

-- open, and again: the line is roused, the book emptied without a record written, and a walk begun. What the line means keeps
-- the laws of every line.
pub record Opens {K : Type 0} (top first count : ℕ) (line : Meaning K) (memory : List (Record K)) (after : Scene K) : Type 0 where
  pub line_roused : after.line ≡ roused line
  pub line_sound : Sound first count after.line
  pub memory_kept : after.memory ≡ memory
  pub book_empty : after.count ≡ 0
  pub walk_begun : after.walk ≡ begun top

-- One question of a run: put to the line, answered as a line may, and heard. The book is as it was, or one key is listed.
pub record Asks {K : Type 0} (rank : K → ℕ) (before after : Scene K) : Type 0 where
  pub reply : Answer K
  pub honest : Honest rank before.line before.walk reply after.line
  pub is_heard : after.walk ≡ heard (places before) before.walk (answer_ranks rank reply)
  pub book_kept : lists_key (places before) before.walk (answer_ranks rank reply) ≡ false
      → (after.memory ≡ before.memory) × (after.count ≡ before.count)
  pub key_listed : lists_key (places before) before.walk (answer_ranks rank reply) ≡ true
      → (k : K) → before.walk.hushing ≡ Some (rank k)
      → (after.memory ≡ with_key rank k (rows before) ++ drop (suc before.count) before.memory) × (after.count ≡ suc before.count)

-- So many of them, one after the other.
pub data Questions {K : Type 0} (rank : K → ℕ) (before : Scene K) : ℕ → Scene K → Type 0 where
  no_question : Questions rank before 0 before
  then_asks : {i : ℕ} {s t : Scene K} → Questions rank before i s → Asks rank s t → Questions rank before (suc i) t

-- A walk that ended as full or contradicted says so in place of what was heard.
abbrev pub ran_answer : ℕ → Phase → Result Ran Refusal
ran_answer i Walking = Ok (record { heard = i; phase = Walking })
ran_answer i Walked = Ok (record { heard = i; phase = Walked })
ran_answer i Laid = Ok (record { heard = i; phase = Laid })
ran_answer i Set = Ok (record { heard = i; phase = Set })
ran_answer i Full = Err BookFull
ran_answer i Contradicted = Err SaysContradicted

-- run: questions are asked until so many answers are heard, the walk asks no more, or no more are counted. Outside walking,
-- and when no more are counted, it is refused.
pub data Runs {K : Type 0} (rank : K → ℕ) (budget : ℕ) (before : Scene K) (r : Result Ran Refusal) (after : Scene K) : Type 0 where
  outside_walking : is_walking before.walk.phase ≡ false → r ≡ Err WrongPhase → after ≡ before → Runs rank budget before r after
  questions_spent : is_walking before.walk.phase ≡ true → 2 ^ 24 ≤ before.walk.questions → r ≡ Err QuestionsSpent → after ≡ before
      → Runs rank budget before r after
  asks_on : (i : ℕ)
      → is_walking before.walk.phase ≡ true
      → before.walk.questions < 2 ^ 24
      → Questions rank before i after
      → i ≤ budget
      → (i ≡ budget) ⊎ ((asked after.walk ≡ None) ⊎ (2 ^ 24 ≤ after.walk.questions))
      → r ≡ ran_answer i after.walk.phase
      → Runs rank budget before r after

abbrev pub unless_refused : {K : Type 0} → Option Refusal → Scene K → Scene K → Scene K
unless_refused (Some refusal) before after = before
unless_refused None before after = after

abbrev pub refused_or_done : Option Refusal → Result (Unit {0}) Refusal
refused_or_done (Some refusal) = Err refusal
refused_or_done None = Ok tt

-- lay: every listed key is asked; one that does not answer is refused, and then widths that are too many in sum.
abbrev pub width_refusal : ℕ → Bool → ℕ → Option Refusal
width_refusal count answered total = cond (not answered) (Some NoAnswer) (cond (nat_lt count total) (Some TooWide) None)

abbrev pub widths_refusal : {K : Type 0} → Phase → ℕ → Meaning K → List (Record K) → Option Refusal
widths_refusal Walked count m rows = width_refusal count (all_answered (asked_widths m rows)) (sum (told_widths m rows))
widths_refusal Walking count m rows = Some WrongPhase
widths_refusal Laid count m rows = Some WrongPhase
widths_refusal Set count m rows = Some WrongPhase
widths_refusal Full count m rows = Some WrongPhase
widths_refusal Contradicted count m rows = Some WrongPhase

abbrev pub lay_refusal : {K : Type 0} → ℕ → Scene K → Option Refusal
lay_refusal count s = widths_refusal s.walk.phase count s.line (rows s)

-- Widths and addresses go into the rows; no other record changes.
abbrev pub laid : {K : Type 0} → ℕ → Scene K → Scene K
laid first s = record {
  line = s.line;
  memory = numbered first s.line (rows s) ++ drop s.count s.memory;
  count = s.count;
  walk = in_phase Laid s.walk;
}

pub record Lays {K : Type 0} (first count : ℕ) (before : Scene K) (r : Result (Unit {0}) Refusal) (after : Scene K) : Type 0 where
  pub answer : r ≡ refused_or_done (lay_refusal count before)
  pub scene : after ≡ unless_refused (lay_refusal count before) before (laid first before)

-- commit: every row is looked at before the first address is written.
abbrev pub rows_refusal : {K : Type 0} → Phase → ℕ → ℕ → Meaning K → List (Record K) → Option Refusal
rows_refusal Laid first count m rows = cond (all_stand first count m rows) None (Some NoAnswer)
rows_refusal Walking first count m rows = Some WrongPhase
rows_refusal Walked first count m rows = Some WrongPhase
rows_refusal Set first count m rows = Some WrongPhase
rows_refusal Full first count m rows = Some WrongPhase
rows_refusal Contradicted first count m rows = Some WrongPhase

abbrev pub commit_refusal : {K : Type 0} → ℕ → ℕ → Scene K → Option Refusal
commit_refusal first count s = rows_refusal s.walk.phase first count s.line (rows s)

abbrev pub committed : {K : Type 0} → (K → ℕ) → ℕ → ℕ → Scene K → Scene K
committed rank first count s = record {
  line = all_written rank first count s.line (rows s);
  memory = s.memory;
  count = s.count;
  walk = in_phase Set s.walk;
}

pub record Commits {K : Type 0} (rank : K → ℕ) (first count : ℕ) (before : Scene K) (r : Result (Unit {0}) Refusal) (after : Scene K) : Type 0 where
  pub answer : r ≡ refused_or_done (commit_refusal first count before)
  pub scene : after ≡ unless_refused (commit_refusal first count before) before (committed rank first count before)

-- close: the line is rested; the book is as it was, and the closed job has the job's phase and questions.
abbrev pub closed : {K : Type 0} → Scene K → ClosedScene K
closed s = record {
  line = rested s.line;
  memory = s.memory;
  count = s.count;
  phase = s.walk.phase;
  questions = s.walk.questions;
}
