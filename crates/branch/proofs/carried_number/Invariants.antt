use Rattle.std.proofs.Common.{◌≡◌, ◌*◌, ◌^◌, ◌<◌, drop}
use Rattle.branch.specs.BranchReply.{carried_after, carried}
use Rattle.branch.proofs.carried_number.Given as goal

abbrev pub invariant-loop-p : goal.invariant-loop-p
invariant-loop-p l = (l.number < 256 ^ l.p-index) × (carried_after l.number (drop (2 * l.p-index) l.fn.pairs) ≡ carried l.fn.pairs)
