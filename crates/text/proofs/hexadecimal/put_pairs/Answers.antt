use Rattle.std.proofs.Common.{subst, arith}
use Rattle.std.proofs.lemmas.List.{take_all}
use Rattle.octets.specs.Writer.{Wrote}
use Rattle.octets.proofs.Writing.{wrote_next}
use Rattle.text.specs.Hexadecimal.{bytes_of}
use Rattle.text.proofs.HexText.{length_bytes, pair_next}
use Rattle.text.proofs.hexadecimal.put_pairs.Goals as goal

pub loop-a-preserved : goal.loop-a-preserved
loop-a-preserved c =
    wrote_next _ _ _ _ _ _ c.loop-a.invariant c.put.ensures (pair_next c.args.text.now _ c.loop-a.a-index _ c.as_chunks.ensures.front (omega arith) c.byte.ensures)

pub returns : goal.returns
returns c =
    let size = length_bytes c.args.text.now in
    subst (λ text. Wrote c.args.out.now text c.loop-a.out) (take_all c.loop-a.a-index (bytes_of c.args.text.now) (omega arith)) c.loop-a.invariant
