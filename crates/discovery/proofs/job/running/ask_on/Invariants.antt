use Rattle.job_law.specs.Calls.{Questions}
use Rattle.discovery.specs.Jobs.{scene_of}
use Rattle.discovery.proofs.job.running.ask_on.Given as goal

abbrev pub invariant-loop-heard : goal.invariant-loop-heard
invariant-loop-heard g l =
    Questions g.L.Key.Family.rank (scene_of g.L.Key.Family.rank (g.L.Line.means l.initial.line) l.initial.book l.initial.job) l.heard
    (scene_of g.L.Key.Family.rank (g.L.Line.means l.line) l.book l.job)
