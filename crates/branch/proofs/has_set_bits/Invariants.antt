use Rattle.std.proofs.Common.{◌≡◌, true, take}
use Rattle.std.specs.List.{list_all}
use Rattle.branch.proofs.Pairs.{pair_is_set}
use Rattle.branch.proofs.has_set_bits.Given as goal

abbrev pub invariant-loop-p : goal.invariant-loop-p
invariant-loop-p l = list_all pair_is_set (take l.p-index l.pairs) ≡ true
