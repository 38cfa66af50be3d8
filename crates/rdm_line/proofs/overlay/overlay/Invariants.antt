use Rattle.std.proofs.Common.{◌≡◌, ℕ, length, take}
use Rattle.branch.specs.Overlaid.{overlaid}
use Rattle.rdm_line.specs.Joining.{Joins}
use Rattle.rdm_line.proofs.overlay.overlay.Given as goal

abbrev pub invariant-loop-i : goal.invariant-loop-i
invariant-loop-i g l =
    ((joined : ℕ → ℕ → ℕ) → Joins (λ x y r. g.F.Fn.post l.join (x, (y, tt)) r) joined
    → take l.i l.bytes ≡ overlaid joined (take l.i l.a.bytes) (take l.i l.b.bytes))
    × (length l.bytes ≡ 45)
