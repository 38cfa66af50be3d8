use Rattle.std.proofs.Common.{◌∙◌}
use Rattle.dali_line.proofs.Spoken.{enable_sent}
use Rattle.dali_line.proofs.wire.Wire.enable.Goals as goal

pub returns : goal.returns
returns c =
    let wire = c.args.self.now in
    record {
      units_then = c.send_all.ensures.units_then ∙ enable_sent wire.bus wire.units.items;
      bus_then = c.send_all.ensures.bus_then;
    }
