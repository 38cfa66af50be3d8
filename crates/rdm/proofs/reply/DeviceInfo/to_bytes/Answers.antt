use Rattle.std.proofs.Common.{rules}
use Rattle.rdm.specs.Reply.{info_bytes}
use Rattle.rdm.proofs.reply.DeviceInfo.to_bytes.Goals as goal

pub returns : goal.returns
unfolding info_bytes
returns c = search rules
