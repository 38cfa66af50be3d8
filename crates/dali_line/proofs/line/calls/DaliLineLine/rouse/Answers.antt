use Rattle.dali_line.specs.Meanings.{means_roused}
use Rattle.dali_line.proofs.Standing.{stands_enabled}
use Rattle.dali_line.proofs.line.calls.DaliLineLine.rouse.Goals as goal

pub invariant_of-self : goal.invariant_of-self
invariant_of-self c =
    let (distinct, states) = stands_enabled c.args.self.now _ c.enable.ensures.units_then in
    record { distinct = distinct; states = states }

pub returns-clause-after : goal.returns-clause-after
returns-clause-after c = means_roused c.args.self.now _ c.enable.ensures.units_then
