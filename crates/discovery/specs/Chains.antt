-- Where a chain of calls stands, read off line, book and newest job.
use Rattle.std.specs.Prelude.{ℕ, Bool, true, false}
use Rattle.lines.specs.Meaning.{Meaning}
use Rattle.job_law.specs.Chain.{State, with_job, with_closed}
use Rattle.job_law.specs.Scene.{ClosedScene}
use Rattle.discovery.specs.Books.{memory_of}
use Rattle.discovery.specs.Jobs.{scene_of}
use Rattle.discovery.specs.declared.book.Book.{Book}
use Rattle.discovery.specs.declared.job.ClosedJob.{ClosedJob}
use Rattle.discovery.specs.declared.job.chain.NewestJob.{NewestJob}
use Rattle.discovery.specs.declared.job.chain.NewestJob.TheVariants.{Open, Closed}

abbrev pub closed_scene_of : {K : Type 0} → Meaning K → Book K → ClosedJob → ClosedScene K
closed_scene_of m book job = record {
  line = m;
  memory = memory_of book;
  count = book.count;
  phase = job.phase;
  questions = job.questions;
}

abbrev pub state_of : {K : Type 0} → (K → ℕ) → Meaning K → Book K → NewestJob K → State K
state_of rank m book (Open job) = with_job (scene_of rank m book job)
state_of rank m book (Closed job) = with_closed (closed_scene_of m book job)

abbrev pub is_closed : {K : Type 0} → NewestJob K → Bool
is_closed (Open job) = false
is_closed (Closed job) = true
