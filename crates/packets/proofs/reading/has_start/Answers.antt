use Rattle.std.proofs.Common.{rules}
use Rattle.packets.specs.Opened.{starts}
use Rattle.packets.proofs.reading.has_start.Goals as goal

pub returns : goal.returns
unfolding starts
returns c = search rules
