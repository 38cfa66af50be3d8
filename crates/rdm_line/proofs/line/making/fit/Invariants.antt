use Rattle.std.proofs.Common.{◌≡◌, ◌+◌, length, take}
use Rattle.std.specs.Slice.Iter.{iter_rest}
use Rattle.rdm_line.specs.Making.{EmptyBehind}
use Rattle.rdm_line.proofs.Fitting.{FittedSoFar}
use Rattle.rdm_line.proofs.line.making.fit.Given as goal

-- The pairs so far have their fixtures, the places behind are empty, and the iterator has the pairs that are left.
abbrev pub invariant-loop-i : goal.invariant-loop-i
invariant-loop-i l =
    FittedSoFar l.keys l.widths (take l.i-iterator.count l.places) (iter_rest l.i-iterator.iter.a) (iter_rest l.i-iterator.iter.b)
    × EmptyBehind l.i-iterator.count l.places
    × (l.i-iterator.count + length (iter_rest l.i-iterator.iter.a) ≡ length l.keys)
    × (length l.places ≡ 128)
