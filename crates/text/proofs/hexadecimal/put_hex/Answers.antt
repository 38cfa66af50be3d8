use Rattle.std.proofs.Common.{◌<◌, take, arith, rules}
use Rattle.std.proofs.ByRecursion.{All-from_get_or}
use Rattle.std.proofs.lemmas.List.{length-take-le}
use Rattle.octets.proofs.Writing.{wrote_next}
use Rattle.text.proofs.HexBack.{hex_reads_back}
use Rattle.text.proofs.HexText.{length-hex, hex_next}
use Rattle.text.proofs.hexadecimal.put_hex.Goals as goal

pub put-requires : goal.put-requires
put-requires c =
    let few = length-take-le c.loop-b.b-index c.args.bytes.now (omega arith) in
    omega (arith, length-hex (take c.loop-b.b-index c.args.bytes.now))

pub loop-b-preserved : goal.loop-b-preserved
loop-b-preserved c =
    wrote_next _ _ _ _ _ _ c.loop-b.invariant c.put.ensures (hex_next c.args.bytes.now c.loop-b.b-index _ _ c.loop-b-test.true (search rules) (search rules))

pub returns-clause-reads_back : goal.returns-clause-reads_back
returns-clause-reads_back c = hex_reads_back c.args.bytes.now (All-from_get_or (λ b. b < 256) c.args.bytes.now 0 (λ i _. search (rules, c.type_inv.bytes i)))
