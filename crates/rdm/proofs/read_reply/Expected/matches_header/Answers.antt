use Rattle.std.proofs.Common.{arith}
use Rattle.std.proofs.lemmas.Bool.Decides.{nat_tests}
use Rattle.rdm.specs.ReadReply.{matches}
use Rattle.rdm.proofs.read_reply.Expected.matches_header.Goals as goal

pub returns-then-header-eq-CONTROLLER : goal.returns-then-header-eq-CONTROLLER
unfolding matches
returns-then-header-eq-CONTROLLER c = grind (arith, nat_tests)

pub returns-else-header-eq-CONTROLLER : goal.returns-else-header-eq-CONTROLLER
unfolding matches
returns-else-header-eq-CONTROLLER c = grind (arith, nat_tests)
