use Rattle.std.proofs.Common.{◌≡◌, ◌++◌, map, take, drop}
use Rattle.rdm_line.specs.Cable.{signal_on}
use Rattle.rdm_line.specs.Sending.{reply_to, after, gathered, replies_to}
use Rattle.rdm_line.proofs.sending.send.Given as goal

-- The fixtures up to here have heard the frame, and the replies of the others are still to come.
abbrev pub invariant-loop-fixture : goal.invariant-loop-fixture
invariant-loop-fixture l =
    (l.fixtures ≡ map (after l.frame) (take l.fixture-index l.initial.fixtures) ++ drop l.fixture-index l.initial.fixtures)
    × (gathered l.mode (signal_on l.cable) (map (reply_to l.frame) (drop l.fixture-index l.initial.fixtures))
    ≡ replies_to l.mode l.frame l.initial.fixtures)
