use Rattle.std.proofs.Common.{◌∙◌}
use Rattle.keys.specs.RandomAddress.{random_number}
use Rattle.dali_line.specs.Meanings.{means_hushed, hush_answer_is}
use Rattle.dali_line.proofs.Standing.{stands_withdrawn}
use Rattle.dali_line.proofs.line.calls.DaliLineLine.hush.Goals as goal

pub invariant_of-self : goal.invariant_of-self
invariant_of-self c =
    let (distinct, states) = stands_withdrawn c.args.self.now _ (random_number c.args.key) c.withdraw.ensures.after.units_then in
    record { distinct = distinct; states = states }

pub returns-clause-answer : goal.returns-clause-answer
returns-clause-answer c = c.withdraw.ensures.answer ∙ hush_answer_is c.args.self.now c.args.key

pub returns-clause-after : goal.returns-clause-after
returns-clause-after c = means_hushed c.args.key c.args.self.now _ c.withdraw.ensures.after.units_then
