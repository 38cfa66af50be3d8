use Rattle.std.proofs.Common.{cond, ap}
use Rattle.lines.specs.declared.answers.ProbeAnswer.TheVariants.{Silent, Garbled}
use Rattle.dali_line.proofs.Probes.{answer_probed}
use Rattle.dali_line.proofs.line.calls.DaliLineLine.probe.Goals as goal

pub returns-then-compare-clause-answer : goal.returns-then-compare-clause-answer
returns-then-compare-clause-answer c =
    answer_probed c.args.self.now c.args.range Garbled (ap (λ t. cond t Garbled Silent) c.if-compare.ensures.answer)

pub returns-else-compare-clause-answer : goal.returns-else-compare-clause-answer
returns-else-compare-clause-answer c =
    answer_probed c.args.self.now c.args.range Silent (ap (λ t. cond t Garbled Silent) c.if-compare.ensures.answer)
