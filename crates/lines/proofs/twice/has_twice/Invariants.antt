use Rattle.std.proofs.Common.{◌≡◌, length}
use Rattle.lines.specs.Twice.{has_twice}
use Rattle.lines.proofs.twice.has_twice.Given as goal

-- No number before those that are left stands twice.
abbrev pub invariant-loop-number : goal.invariant-loop-number
invariant-loop-number l = has_twice l.rest ≡ has_twice l.numbers

abbrev pub decreases-loop-number : goal.decreases-loop-number
decreases-loop-number l = length l.rest
