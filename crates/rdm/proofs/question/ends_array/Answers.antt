use Rattle.std.proofs.Common.{rules}
use Rattle.rdm.specs.Question.{ends_bytes}
use Rattle.rdm.proofs.question.ends_array.Goals as goal

pub returns : goal.returns
unfolding ends_bytes
returns c = search rules
