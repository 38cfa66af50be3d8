use Rattle.std.proofs.Common.{[], ◌∷◌}
use Rattle.discovery.specs.Pending.{stacked}
use Rattle.discovery.proofs.pending.Pending.all.Goals as goal

pub returns : goal.returns
unfolding stacked
returns g c = λ i. record { lo = c.lowest.ensures i; hi = c.highest.ensures i } ∷ []
