use Rattle.std.proofs.Common.{rules}
use Rattle.outgoing.specs.declared.Outgoing.TheVariants.{DeviceInfo}
use Rattle.requests.specs.Writing.{device_info_at}
use Rattle.requests.proofs.writing.device_info.Goals as goal

pub returns : goal.returns
unfolding device_info_at
returns c = c.to_key.ensures DeviceInfo (λ tn key made by. search rules)
