use Rattle.std.proofs.Common.{rules}
use Rattle.outgoing.specs.declared.Outgoing.TheVariants.{Mute}
use Rattle.requests.specs.Writing.{mute_at}
use Rattle.requests.proofs.writing.mute.Goals as goal

pub returns : goal.returns
unfolding mute_at
returns c = c.to_key.ensures Mute (λ tn key made by. search rules)
