use Rattle.std.proofs.Common.{rules}
use Rattle.packets.specs.Opened.{sized}
use Rattle.packets.proofs.reading.has_size.Goals as goal

pub returns-then-bytes : goal.returns-then-bytes
unfolding sized
returns-then-bytes c = search rules

pub returns-else-bytes : goal.returns-else-bytes
unfolding sized
returns-else-bytes c = search rules
