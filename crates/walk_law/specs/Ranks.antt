-- Lists of ranks: what is in them, and where a new one goes.
use Rattle.std.specs.Prelude.{ℕ, suc, ◌≤◌, Bool, false, cond, ◌||◌, List, [], ◌∷◌, ◌==◌, nat_lt}

unfoldable pub is_in : ℕ → List ℕ → Bool
is_in j [] = false
is_in j (x ∷ xs) = j == x || is_in j xs

-- A rank goes before the first that is not below it.
unfoldable pub put_in : ℕ → List ℕ → List ℕ
put_in j [] = j ∷ []
put_in j (x ∷ xs) = cond (nat_lt x j) (x ∷ put_in j xs) (j ∷ x ∷ xs)

-- Strictly ascending, from a number on.
abbrev pub AscendsFrom : ℕ → List ℕ → Type 0
AscendsFrom low [] = Unit {0}
AscendsFrom low (x ∷ xs) = (low ≤ x) × AscendsFrom (suc x) xs

abbrev pub Ascends : List ℕ → Type 0
Ascends xs = AscendsFrom 0 xs
