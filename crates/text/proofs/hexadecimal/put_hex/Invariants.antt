use Rattle.std.proofs.Common.{take}
use Rattle.octets.specs.Writer.{Wrote}
use Rattle.text.specs.Hexadecimal.{hex_text}
use Rattle.text.proofs.hexadecimal.put_hex.Given as goal

abbrev pub invariant-loop-b : goal.invariant-loop-b
invariant-loop-b l = Wrote l.initial.out (hex_text (take l.b-index l.bytes)) l.out
