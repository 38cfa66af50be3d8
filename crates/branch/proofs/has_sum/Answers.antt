use Rattle.std.proofs.Common.{rules}
use Rattle.branch.specs.BranchReply.{sum_carried}
use Rattle.branch.proofs.has_sum.Goals as goal

pub returns : goal.returns
unfolding sum_carried
returns c = search rules
