use Rattle.std.proofs.Common.{◌≡◌, not, ◌∙◌, rules}
use Rattle.units.specs.Received.{is_nothing}
use Rattle.dali_line.proofs.Spoken.{compare_sent}
use Rattle.dali_line.proofs.wire.Wire.compare.Goals as goal

pub returns : goal.returns
returns c =
    let something : c.ne.result ≡ not (is_nothing c.send.result) = search rules in
    let (heard, units_then, bus_then) =
    compare_sent c.args.key c.seek.ensures.units_then c.seek.ensures.bus_then c.send.ensures in
    record { answer = something ∙ heard; after = record { units_then = units_then; bus_then = bus_then } }
