use Rattle.std.proofs.Common.{take}
use Rattle.octets.specs.Writer.{Wrote}
use Rattle.text.specs.Hexadecimal.{bytes_of}
use Rattle.text.proofs.hexadecimal.put_pairs.Given as goal

abbrev pub invariant-loop-a : goal.invariant-loop-a
invariant-loop-a l = Wrote l.initial.out (take l.a-index (bytes_of l.text)) l.out
