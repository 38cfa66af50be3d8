use Rattle.std.proofs.Common.{ap, ◌∙◌}
use Rattle.units.specs.Bus.{bus_after}
use Rattle.units.proofs.Frames.{is_read}
use Rattle.units.proofs.bus.Bus.hear.Goals as goal

pub returns : goal.returns
returns c frame same =
    c.pass.ensures ∙ ap (bus_after c.args.self.now) (is_read frame c.read.result c.args.bytes same c.read.ensures)
