use Rattle.job_law.specs.Chain.{runs, lays, commits, closes}
use Rattle.discovery.specs.Chains.{closed_scene_of}
use Rattle.discovery.proofs.Chaining.{opens_in_place}
use Rattle.discovery.proofs.job.chain.call_job.Goals as goal
use Rattle.discovery.proofs.job.chain.call_job.Goals.{in-Open, in-Run, in-Lay, in-Commit}

pub returns-in-Close : goal.returns-in-Close
returns-in-Close g c =
    rw c.in-Close.is (closes (λ i. closed_scene_of (c.close.ensures.line i) c.args.book.now (c.close.ensures.job i)))

pub returns : goal.returns
returns g c = elim c.match-call.branch [
  | in-Open w ↦ rw (w.line-is, w.book-is, w.job-is) (opens_in_place g.L.Key.Family.rank g.L.Key.Family.top g.L.Key.Family.first g.L.Key.Family.count _ _ c.args.call w.in-Open.is w.again.ensures)
  | in-Run w ↦ rw (w.line-is, w.book-is, w.job-is, w.in-Run.is) (runs w.run.ensures)
  | in-Lay w ↦ rw (w.line-is, w.book-is, w.job-is, w.in-Lay.is) (lays w.lay.ensures)
  | in-Commit w ↦ rw (w.line-is, w.book-is, w.job-is, w.in-Commit.is) (commits w.commit.ensures)
]
