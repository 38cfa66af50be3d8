use Rattle.std.proofs.Common.{arith, rules}
use Rattle.std.proofs.lemmas.Bool.Decides.{nat_tests}
use Rattle.packets.proofs.Packets.{length-packet, wrote_packet}
use Rattle.packets.proofs.writing.write_packet.Goals as goal

pub returns-then-buf-size : goal.returns-then-buf-size
returns-then-buf-size c = let size = length-packet c.args.header c.args.payload.now in grind (arith, nat_tests)

pub returns : goal.returns
returns c =
    let size = length-packet c.args.header c.args.payload.now in
    let packet =
    wrote_packet _ c.args.header c.args.payload.now c.new-writer.result c.put.new.self c.put-2.new.self
    c.put-3.new.self
    c.checksum-sum.result
    c.new-writer.ensures
    (search rules)
    c.put-2.ensures
    (search rules)
    (search rules) in
    grind (arith, nat_tests)
