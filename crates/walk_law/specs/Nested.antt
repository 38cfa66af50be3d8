-- How pending ranges lie, whatever was answered: one right behind the other up to the highest rank, each at most as wide
-- as its place allows. The lowest of all has as many levels left as the family has, less those of the ranges behind it.
use Rattle.std.specs.Prelude.{ℕ, suc, ◌+◌, ◌-◌, ◌^◌, Bool, true, false, not, ◌&&◌, ◌||◌, List, [], ◌∷◌, length, ◌==◌, nat_le, nat_lt}
use Rattle.keys.specs.declared.range.Range.{Range}
use Rattle.walk_law.specs.Phases.{is_walking}
use Rattle.walk_law.specs.declared.phase.Phase.{Phase}

-- Ranges from a rank on up to the highest, the first with so many levels, each with one more than the one before.
unfoldable pub nested_from : ℕ → ℕ → ℕ → List (Range ℕ) → Bool
nested_from levels low top [] = low == suc top
nested_from levels low top (s ∷ ss) =
    (s.lo == low)
    && (nat_le s.lo s.hi && (nat_lt s.hi (s.lo + 2 ^ levels) && nested_from (suc levels) (suc s.hi) top ss))

unfoldable pub nested : ℕ → ℕ → List (Range ℕ) → Bool
nested levels top [] = true
nested levels top (r ∷ rs) =
    nat_le (length rs) levels
    && (nat_le r.lo r.hi
    && (nat_lt r.hi (r.lo + 2 ^ (levels - length rs)) && nested_from (levels - length rs) (suc r.hi) top rs))

abbrev pub is_pending : List (Range ℕ) → Bool
is_pending [] = false
is_pending (r ∷ rs) = true

-- A walk in its memory: a range is pending while it is walking, and pending ranges are nested.
unfoldable pub keeps_shape : ℕ → ℕ → Phase → List (Range ℕ) → Bool
keeps_shape levels top phase pending = (not (is_walking phase) || is_pending pending) && nested levels top pending
