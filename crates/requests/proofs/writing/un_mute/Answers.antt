use Rattle.std.proofs.Common.{rules}
use Rattle.outgoing.specs.declared.Outgoing.TheVariants.{UnMute}
use Rattle.requests.specs.Writing.{un_mute_at}
use Rattle.requests.proofs.writing.un_mute.Goals as goal

pub returns : goal.returns
unfolding un_mute_at
returns c = c.to_key.ensures UnMute (λ tn key made by. search rules)
