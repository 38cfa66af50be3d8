use Rattle.std.proofs.Common.{ap, ◌∙◌}
use Rattle.keys.specs.RandomAddress.{random_number}
use Rattle.dali_line.specs.Controller.{units_after_all, bus_after_all}
use Rattle.dali_line.proofs.Spoken.{seek_sent}
use Rattle.dali_line.proofs.wire.Wire.seek.Goals as goal

pub returns : goal.returns
returns c =
    let wire = c.args.self.now in
    let frames = c.search_frames.ensures in
    record {
      units_then =
          c.send_all.ensures.units_then
          ∙ ap (λ fs. units_after_all wire.bus fs wire.units.items) frames
          ∙ seek_sent wire.bus (random_number c.args.key) wire.units.items;
      bus_then = c.send_all.ensures.bus_then ∙ ap (bus_after_all wire.bus) frames;
    }
