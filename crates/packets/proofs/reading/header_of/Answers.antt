use Rattle.std.proofs.Common.{rules}
use Rattle.packets.specs.Opened.{header_at}
use Rattle.packets.proofs.reading.header_of.Goals as goal

pub returns : goal.returns
unfolding header_at
returns c = search rules
