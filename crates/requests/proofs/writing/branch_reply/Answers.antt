use Rattle.std.proofs.Common.{rules}
use Rattle.outgoing.specs.declared.Outgoing.TheVariants.{BranchReply}
use Rattle.requests.specs.Writing.{branch_reply_at}
use Rattle.requests.proofs.writing.branch_reply.Goals as goal

pub returns : goal.returns
unfolding branch_reply_at
returns c = c.of_key.ensures BranchReply (λ key made by. search rules)
