use Rattle.std.proofs.Common.{sym, ap, ◌∙◌, arith}
use Rattle.job_law.specs.Calls.{asks_on, ran_answer}
use Rattle.walk_law.specs.Phases.{is_walking}
use Rattle.discovery.proofs.job.Job.run.Goals as goal

pub returns : goal.returns
returns g c =
    let walks = sym (c.is_walking.ensures ∙ ap is_walking c.phase.ensures) ∙ c.if-not-is_walking.false in
    asks_on c.ask_on-heard.result walks (omega (arith, c.questions.ensures)) c.ask_on-heard.ensures.questions c.ask_on-heard.ensures.bound c.ask_on-heard.ensures.stops
    (c.ran.ensures ∙ ap (ran_answer c.ask_on-heard.result) c.phase-2.ensures)
