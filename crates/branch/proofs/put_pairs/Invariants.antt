use Rattle.std.proofs.Common.{take}
use Rattle.octets.specs.Writer.{Wrote}
use Rattle.branch.specs.BranchReply.{pairs_of}
use Rattle.branch.proofs.put_pairs.Given as goal

abbrev pub invariant-loop-b : goal.invariant-loop-b
invariant-loop-b l = Wrote l.initial.out (pairs_of (take l.b-index l.bytes)) l.out
