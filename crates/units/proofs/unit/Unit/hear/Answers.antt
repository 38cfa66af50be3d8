use Rattle.std.proofs.Common.{ap, ◌∙◌}
use Rattle.units.specs.Unit.{unit_after}
use Rattle.units.proofs.Frames.{is_read}
use Rattle.units.proofs.unit.Unit.hear.Goals as goal

pub returns-clause-after : goal.returns-clause-after
returns-clause-after c frame same =
    c.react.ensures.after ∙ ap (λ f. unit_after c.args.bus.now f c.args.self.now) (is_read frame c.read.result c.args.bytes same c.read.ensures)
