-- What a counting line has counted. The counts stay at the highest number once they have reached it.
use Rattle.std.specs.Prelude.{◌≡◌, ℕ, ◌+◌, ◌-◌, ◌^◌, min}
use Rattle.lines.specs.declared.counted.Counted.{Counted}

abbrev pub one_more : ℕ → ℕ
one_more n = min (n + 1) (2 ^ 32 - 1)

-- Neither count has changed.
abbrev pub SameCounts : {L : Type 0} → Counted L → Counted L → Type 0
SameCounts before after = (after.probes ≡ before.probes) × (after.hushes ≡ before.hushes)

-- One probe more, or one hush more.
abbrev pub ProbeCounted : {L : Type 0} → Counted L → Counted L → Type 0
ProbeCounted before after = (after.probes ≡ one_more before.probes) × (after.hushes ≡ before.hushes)

abbrev pub HushCounted : {L : Type 0} → Counted L → Counted L → Type 0
HushCounted before after = (after.probes ≡ before.probes) × (after.hushes ≡ one_more before.hushes)
