-- What is said of keys by their ranks.
use Rattle.std.specs.Prelude.{◌≡◌, ℕ, ◌+◌, ◌/◌, ◌<◌, ◌≤◌, Some, None, Option}
use Rattle.keys.specs.declared.range.Range.{Range}

-- r is the key of rank n: none above the highest.
abbrev pub AtRank : {K : Type 0} → (K → ℕ) → ℕ → ℕ → Option K → Type 0
AtRank rank top n None = top < n
AtRank rank top n (Some x) = rank x ≡ n

-- r is the key after k: none after the highest.
abbrev pub Next : {K : Type 0} → (K → ℕ) → ℕ → K → Option K → Type 0
Next rank top k None = rank k ≡ top
Next rank top k (Some x) = rank x ≡ rank k + 1

-- r is both halves of a range: lo to the half, and the key after the half to hi. Only a range whose lower end is
-- below its upper end has halves.
abbrev pub Halves : {K : Type 0} → (K → ℕ) → Range K → Option (Range K × Range K) → Type 0
Halves rank s None = rank s.hi ≤ rank s.lo
Halves rank s (Some (lower, upper)) = rank s.lo < rank s.hi
    × (lower.lo ≡ s.lo)
    × (rank lower.hi ≡ (rank s.lo + rank s.hi) / 2)
    × (rank upper.lo ≡ (rank s.lo + rank s.hi) / 2 + 1)
    × (upper.hi ≡ s.hi)
