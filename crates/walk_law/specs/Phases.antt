-- The phases, by the numbers that a sheet tells.
use Rattle.std.specs.Prelude.{ℕ, Bool, true, false}
use Rattle.walk_law.specs.declared.phase.Phase.{Phase}
use Rattle.walk_law.specs.declared.phase.Phase.TheVariants.{Walking, Walked, Laid, Set, Full, Contradicted}

abbrev pub phase_number : Phase → ℕ
phase_number Walking = 0
phase_number Walked = 1
phase_number Laid = 2
phase_number Set = 3
phase_number Full = 4
phase_number Contradicted = 5

abbrev pub is_walking : Phase → Bool
is_walking Walking = true
is_walking Walked = false
is_walking Laid = false
is_walking Set = false
is_walking Full = false
is_walking Contradicted = false
