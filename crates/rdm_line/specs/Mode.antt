-- The number of each collision mode.
use Rattle.std.specs.Prelude.{◌≡◌, ℕ, ◌<◌, Ok, Err, Result}
use Rattle.refusals.specs.declared.Refusal.{Refusal}
use Rattle.refusals.specs.declared.Refusal.TheVariants.{AboveLimit}
use Rattle.rdm_line.specs.declared.mode.Mode.{Mode}
use Rattle.rdm_line.specs.declared.mode.Mode.TheVariants.{Garble, Or, And, Lowest}

abbrev pub mode_number : Mode → ℕ
mode_number Garble = 0
mode_number Or = 1
mode_number And = 2
mode_number Lowest = 3

-- r is the mode of a number: none above 3.
abbrev pub ModeNumbered : ℕ → Result Mode Refusal → Type 0
ModeNumbered n (Err refusal) = (3 < n) × (refusal ≡ AboveLimit)
ModeNumbered n (Ok mode) = mode_number mode ≡ n
