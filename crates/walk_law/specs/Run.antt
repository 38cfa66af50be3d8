-- Walks over a line: which answers lead from one walk to the next, and what a walk that ended has found.
use Rattle.std.specs.Prelude.{◌≡◌, ℕ, suc, Some}
use Rattle.keys.specs.declared.range.Range.{Range}
use Rattle.lines.specs.Meaning.{Meaning}
use Rattle.lines.specs.Rules.{Probed, hush_answer, hushed}
use Rattle.lines.specs.declared.answers.ProbeAnswer.{ProbeAnswer}
use Rattle.lines.specs.declared.answers.ProbeAnswer.TheVariants.{Silent, Clear, Garbled}
use Rattle.walk_law.specs.Walk.{Walk, asked, heard}
use Rattle.walk_law.specs.declared.question.Answer.{Answer}
use Rattle.walk_law.specs.declared.question.Answer.TheVariants as answer
use Rattle.walk_law.specs.declared.question.Question.{Question}
use Rattle.walk_law.specs.declared.question.Question.TheVariants as question

-- Ranges, questions and answers of keys, by rank.
abbrev pub range_ranks : {K : Type 0} → (K → ℕ) → Range K → Range ℕ
range_ranks rank r = record { lo = rank r.lo; hi = rank r.hi }

abbrev pub question_ranks : {K : Type 0} → (K → ℕ) → Question K → Question ℕ
question_ranks rank (question.Probe r) = question.Probe (range_ranks rank r)
question_ranks rank (question.Hush k) = question.Hush (rank k)

abbrev pub probe_ranks : {K : Type 0} → (K → ℕ) → ProbeAnswer K → ProbeAnswer ℕ
probe_ranks rank Silent = Silent
probe_ranks rank (Clear k) = Clear (rank k)
probe_ranks rank Garbled = Garbled

abbrev pub answer_ranks : {K : Type 0} → (K → ℕ) → Answer K → Answer ℕ
answer_ranks rank (answer.Probe p) = answer.Probe (probe_ranks rank p)
answer_ranks rank (answer.Hush replied) = answer.Hush replied

-- The answers that a line may give to the next question of a walk, each with what the line means afterwards: what the
-- rules of a line say of a probe and of a hush, and nothing else.
pub data Honest {K : Type 0} (rank : K → ℕ) (m : Meaning K) (w : Walk) (a : Answer K) (n : Meaning K) : Type 0 where
  to_probe : (range : Range K) (p : ProbeAnswer K)
      → asked w ≡ Some (question.Probe (range_ranks rank range))
      → Probed rank m range p
      → a ≡ answer.Probe p
      → n ≡ m
      → Honest rank m w a n
  to_hush : (k : K) → asked w ≡ Some (question.Hush (rank k)) → a ≡ answer.Hush (hush_answer m k) → n ≡ hushed rank m k → Honest rank m w a n

-- One question put to a line and its answer heard: from what the line means and the walk to what they are afterwards.
pub record Step {K : Type 0} (rank : K → ℕ) (places : ℕ) (m : Meaning K) (w : Walk) (n : Meaning K) (v : Walk) : Type 0 where
  pub reply : Answer K
  pub honest : Honest rank m w reply n
  pub is_heard : v ≡ heard places w (answer_ranks rank reply)

-- So many of them, one after the other.
pub data Steps {K : Type 0} (rank : K → ℕ) (places : ℕ) (m : Meaning K) (w : Walk) : ℕ → Meaning K → Walk → Type 0 where
  no_step : Steps rank places m w 0 m w
  then_step : {i : ℕ} {n o : Meaning K} {v u : Walk} → Steps rank places m w i n v → Step rank places n v o u → Steps rank places m w (suc i) o u
