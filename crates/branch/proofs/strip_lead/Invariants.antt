use Rattle.std.proofs.Common.{◌≡◌, length}
use Rattle.branch.specs.BranchReply.{behind_lead}
use Rattle.branch.proofs.strip_lead.Given as goal

abbrev pub invariant-loop-fewer : goal.invariant-loop-fewer
invariant-loop-fewer l = behind_lead l.left l.bytes ≡ behind_lead l.fn.lead l.bytes

abbrev pub decreases-loop-fewer : goal.decreases-loop-fewer
decreases-loop-fewer l = length l.left
