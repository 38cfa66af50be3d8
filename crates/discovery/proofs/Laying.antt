-- lay, from what its parts say.
use Rattle.std.proofs.Common.{◌≡◌, ℕ, ◌++◌, take, drop, Ok, sym, ap, ◌∙◌}
use Rattle.std.proofs.lemmas.List.{length-take-le, take_at}
use Rattle.lines.specs.Meaning.{Meaning}
use Rattle.records.specs.Rows.{row_ranks}
use Rattle.walk_law.specs.declared.phase.Phase.TheVariants.{Laid}
use Rattle.job_law.specs.Calls.{Lays, lay_refusal, laid, refused_or_done, unless_refused}
use Rattle.job_law.specs.Numbering.{numbered}
use Rattle.job_law.specs.Scene.{Scene}
use Rattle.job_law.proofs.Spans.{numbered_length, numbered_ranks}
use Rattle.discovery.specs.Books.{memory_of, rows_of}
use Rattle.discovery.specs.Jobs.{scene_of}
use Rattle.discovery.specs.Walks.{standing}
use Rattle.discovery.specs.declared.book.Book.{Book}
use Rattle.discovery.specs.declared.job.Job.{Job}
use Rattle.discovery.specs.declared.walk.Walk.{Walk}
use Rattle.discovery.proofs.Refused.{is_free}

module _ {K : Type 0} (rank : K → ℕ) (first count : ℕ) (m n : Meaning K) (book : Book K) (job : Job K) (same : n ≡ m) where
  abbrev before : Scene K
  before = scene_of rank m book job

  module _ (after : Book K) (walk : Walk K) (counted : after.count ≡ book.count)
      (written : memory_of after ≡ numbered first m (rows_of book) ++ drop book.count (memory_of book))
      (entered : walk ≡ record { phase = Laid; pending = job.walk.pending; hushing = job.walk.hushing; questions = job.walk.questions }) where
    laid_rows : rows_of after ≡ numbered first m (rows_of book)
    laid_rows =
        (λ i. take (counted i) (written i))
        ∙ take_at (numbered first m (rows_of book)) (drop book.count (memory_of book)) book.count
        (numbered_length first m (rows_of book) ∙ length-take-le book.count (memory_of book) book.within)

    pub lay_done : Ok tt ≡ refused_or_done (lay_refusal count before) → Lays first count before (Ok tt) (scene_of rank n after (record { walk = walk }))
    lay_done checked =
        let free = is_free (lay_refusal count before) checked in
        let listed = ap (row_ranks rank) laid_rows ∙ numbered_ranks rank first m (rows_of book) in
        let now : scene_of rank n after (record { walk = walk }) ≡ laid first before =
        λ i. record { line = same i; memory = written i; count = counted i; walk = standing rank (entered i) (listed i) } in
        record {
          answer = checked;
          scene = now ∙ sym (ap (λ o. unless_refused o before (laid first before)) free);
        }
