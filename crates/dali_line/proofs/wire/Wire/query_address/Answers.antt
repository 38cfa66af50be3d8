use Rattle.keys.specs.RandomAddress.{random_number}
use Rattle.std.proofs.Common.{filter}
use Rattle.dali_line.specs.Controller.{selected_at}
use Rattle.dali_line.proofs.Heard.{address_byte, one_told, none_told}
use Rattle.dali_line.proofs.Spoken.{query_sent}
use Rattle.dali_line.proofs.wire.Wire.query_address.Goals as goal

pub returns-in-One : goal.returns-in-One
returns-in-One c =
    let selected = filter (selected_at (random_number c.args.key)) c.args.self.now.units.items in
    let (heard, units_then, bus_then) =
    query_sent c.args.key c.seek.ensures.units_then c.seek.ensures.bus_then c.in-One.ensures in
    record {
      answer = one_told selected c.in-One.byte c.read_address_reply.result heard c.read_address_reply.ensures;
      after = record { units_then = units_then; bus_then = bus_then };
    }

pub returns-in-Nothing : goal.returns-in-Nothing
returns-in-Nothing c =
    let selected = filter (selected_at (random_number c.args.key)) c.args.self.now.units.items in
    let (heard, units_then, bus_then) =
    query_sent c.args.key c.seek.ensures.units_then c.seek.ensures.bus_then c.send.ensures in
    record {
      answer = none_told selected address_byte c.send.result heard c.in-Nothing.is;
      after = record { units_then = units_then; bus_then = bus_then };
    }
