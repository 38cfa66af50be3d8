use Rattle.std.proofs.Common.{rules}
use Rattle.packets.specs.Opened.{summed}
use Rattle.packets.proofs.reading.has_sum.Goals as goal

pub returns : goal.returns
unfolding summed
returns c = search rules
