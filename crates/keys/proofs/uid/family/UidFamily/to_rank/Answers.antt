use Rattle.std.proofs.Common.{rules}
use Rattle.keys.specs.Uid.{uid_rank}
use Rattle.keys.proofs.uid.family.UidFamily.to_rank.Goals as goal

pub returns : goal.returns
unfolding uid_rank
returns c = search rules
