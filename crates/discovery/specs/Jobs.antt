-- What a call finds and leaves, read off line, book and job.
use Rattle.std.specs.Prelude.{◌≡◌, ℕ, ◌^◌, ◌≤◌, ◌⊎◌, None}
use Rattle.lines.specs.Meaning.{Meaning}
use Rattle.lines.specs.Rules.{Probed, hush_answer, hushed}
use Rattle.lines.specs.declared.answers.ProbeAnswer.{ProbeAnswer}
use Rattle.walk_law.specs.Walk.{asked}
use Rattle.walk_law.specs.declared.question.Answer.{Answer}
use Rattle.walk_law.specs.declared.question.Answer.TheVariants as answer
use Rattle.walk_law.specs.declared.question.Question.{Question}
use Rattle.walk_law.specs.declared.question.Question.TheVariants as question
use Rattle.job_law.specs.Scene.{Scene}
use Rattle.discovery.specs.Books.{memory_of, rows_of}
use Rattle.discovery.specs.Walks.{walk_of}
use Rattle.discovery.specs.declared.book.Book.{Book}
use Rattle.discovery.specs.declared.job.Job.{Job}

abbrev pub scene_of : {K : Type 0} → (K → ℕ) → Meaning K → Book K → Job K → Scene K
scene_of rank m book job = record {
  line = m;
  memory = memory_of book;
  count = book.count;
  walk = walk_of rank job.walk (rows_of book);
}

-- There is no question to be asked and counted.
abbrev pub NothingToAsk : {K : Type 0} → Scene K → Type 0
NothingToAsk s = (asked s.walk ≡ None) ⊎ (2 ^ 24 ≤ s.walk.questions)

-- So nothing has changed.
pub record Stops {K : Type 0} (before after : Scene K) : Type 0 where
  pub unchanged : after ≡ before
  pub nothing_to_ask : NothingToAsk after

-- What a line answers to a question, and means afterwards.
abbrev pub Replies : {K : Type 0} → (K → ℕ) → Meaning K → Question K → Answer K → Meaning K → Type 0
Replies {K} rank m (question.Probe range) a n = (p : ProbeAnswer K) × (a ≡ answer.Probe p) × Probed rank m range p × (n ≡ m)
Replies rank m (question.Hush k) a n = (a ≡ answer.Hush (hush_answer m k)) × (n ≡ hushed rank m k)
