-- Changes of every element of a list, and tests that tell nothing.
use Rattle.std.specs.Prelude.{◌≡◌, ℕ, zero, suc, Bool, true, false, cond, List, [], ◌∷◌, ◌++◌, map, take, drop, refl}
use Rattle.std.proofs.Common.{ap}

pub map_by : {X Y : Type 0} (g h : X → Y) → ((x : X) → g x ≡ h x) → (xs : List X) → map g xs ≡ map h xs
map_by g h same xs = λ i. map (λ x. same x i) xs

-- The first so many elements, of which each was changed.
pub first_changed : {X : Type 0} (g : X → X) (n : ℕ) (xs : List X) → take n (map g (take n xs) ++ drop n xs) ≡ map g (take n xs)
first_changed g zero xs = refl
first_changed g (suc n) [] = refl
first_changed g (suc n) (x ∷ xs) = ap (λ ys. g x ∷ ys) (first_changed g n xs)

-- Where both ways are the same, no test tells.
pub cond_same : {X : Type 0} (t : Bool) (x : X) → cond t x x ≡ x
cond_same true x = refl
cond_same false x = refl
