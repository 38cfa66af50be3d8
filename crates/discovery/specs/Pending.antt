-- The pending ranges of a walk, which are kept with the lowest last.
use Rattle.std.specs.Prelude.{ℕ, suc, Bool, false, List, [], ◌∷◌, map, reverse, length, take, Some, None, Option, nat_lt}
use Rattle.keys.specs.declared.range.Range.{Range}
use Rattle.walk_law.specs.Run.{range_ranks}
use Rattle.discovery.specs.declared.pending.Pending.{Pending}

-- So many ranges, by rank, the lowest first.
unfoldable pub stacked : {K : Type 0} → (K → ℕ) → ℕ → List (Range K) → List (Range ℕ)
stacked rank depth ranges = map (range_ranks rank) (reverse (take depth ranges))

abbrev pub ranks_of : {K : Type 0} → (K → ℕ) → Pending K → List (Range ℕ)
ranks_of rank p = stacked rank p.depth p.ranges

abbrev pub first_of : List (Range ℕ) → Option (Range ℕ)
first_of [] = None
first_of (r ∷ rs) = Some r

abbrev pub without_first : List (Range ℕ) → List (Range ℕ)
without_first [] = []
without_first (r ∷ rs) = rs

-- Whether there is a range to be split, and memory for one more.
abbrev pub has_memory : List (Range ℕ) → Bool
has_memory [] = false
has_memory (r ∷ rs) = nat_lt (suc (length rs)) 49
