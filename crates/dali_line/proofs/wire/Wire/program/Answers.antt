use Rattle.std.proofs.Common.{◌≡◌, filter, ◌∙◌, ap₂, rules}
use Rattle.keys.specs.RandomAddress.{random_number}
use Rattle.dali.specs.ShortAddress.{short_byte}
use Rattle.dali_line.specs.Controller.{selected_at}
use Rattle.dali_line.proofs.Heard.{is_byte, same_told}
use Rattle.dali_line.proofs.Spoken.{program_sent}
use Rattle.dali_line.proofs.wire.Wire.program.Goals as goal

pub returns : goal.returns
returns c =
    let selected = filter (selected_at (random_number c.args.key)) c.args.self.now.units.items in
    let address = c.args.address in
    let same : c.eq.result ≡ is_byte c.byte.result c.send-2.result = search rules in
    let (heard, units_then, bus_then) =
    program_sent c.args.key c.seek.ensures.units_then c.seek.ensures.bus_then address c.send.ensures c.send-2.ensures in
    record {
      answer = same ∙ ap₂ is_byte c.byte.ensures heard ∙ same_told selected (short_byte address);
      after = record { units_then = units_then; bus_then = bus_then };
    }
