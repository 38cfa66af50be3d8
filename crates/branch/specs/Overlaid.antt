-- What two branch replies that overlap become, byte for byte.
use Rattle.std.specs.Prelude.{ℕ, List, [], ◌∷◌}

-- As long as both last.
abbrev pub overlaid : (ℕ → ℕ → ℕ) → List ℕ → List ℕ → List ℕ
overlaid join [] ys = []
overlaid join (x ∷ xs) [] = []
overlaid join (x ∷ xs) (y ∷ ys) = join x y ∷ overlaid join xs ys
