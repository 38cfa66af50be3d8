use Rattle.dali_line.specs.Meanings.{means_rested}
use Rattle.dali_line.proofs.Standing.{stands_disabled}
use Rattle.dali_line.proofs.line.calls.DaliLineLine.rest.Goals as goal

pub invariant_of-self : goal.invariant_of-self
invariant_of-self c =
    let (distinct, states) = stands_disabled c.args.self.now _ c.send.ensures.units_then in
    record { distinct = distinct; states = states }

pub returns-clause-after : goal.returns-clause-after
returns-clause-after c = means_rested c.args.self.now _ c.send.ensures.units_then
