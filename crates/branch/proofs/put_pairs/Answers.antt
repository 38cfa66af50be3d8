use Rattle.std.proofs.Common.{take, arith, rules}
use Rattle.std.proofs.lemmas.List.{length-take-le}
use Rattle.octets.proofs.Writing.{wrote_next}
use Rattle.branch.proofs.BranchReplies.{length_pairs, pairs_more}
use Rattle.branch.proofs.put_pairs.Goals as goal

pub put-requires : goal.put-requires
put-requires c =
    let few = length-take-le c.loop-b.b-index c.args.bytes.now (omega arith) in
    omega (arith, length_pairs (take c.loop-b.b-index c.args.bytes.now))

pub loop-b-preserved : goal.loop-b-preserved
loop-b-preserved c =
    wrote_next _ _ _ _ _ _ c.loop-b.invariant c.put.ensures (search (rules, pairs_more c.args.bytes.now c.loop-b.b-index c.loop-b-test.true))
