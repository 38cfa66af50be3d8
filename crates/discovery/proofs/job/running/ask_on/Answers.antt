use Rattle.std.proofs.Common.{add-one}
use Rattle.job_law.specs.Calls.{no_question, then_asks}
use Rattle.discovery.proofs.job.running.ask_on.Goals as goal

pub loop-heard-init : goal.loop-heard-init
loop-heard-init g c = no_question

pub loop-heard-preserved : goal.loop-heard-preserved
loop-heard-preserved g c = rw (add-one c.loop-heard.heard) (then_asks c.loop-heard.invariant c.if-not-ask.ensures)
