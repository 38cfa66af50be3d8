use Rattle.std.proofs.Common.{rules}
use Rattle.keys.specs.RandomAddress.{random_rank}
use Rattle.keys.proofs.random_address.family.RandomAddressFamily.from_rank.Goals as goal

pub returns : goal.returns
unfolding random_rank
returns c = search rules
