use Rattle.std.proofs.Common.{rules}
use Rattle.outgoing.specs.declared.Outgoing.TheVariants.{Search}
use Rattle.requests.specs.Writing.{search_at}
use Rattle.requests.proofs.writing.search.Goals as goal

pub returns : goal.returns
unfolding search_at
returns c = c.of_key.ensures Search (λ key made by. search rules)
