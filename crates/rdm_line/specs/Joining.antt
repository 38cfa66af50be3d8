-- How the bytes of two replies meet.
use Rattle.std.specs.Prelude.{◌≡◌, ℕ, ◌^◌, ◌<◌}

-- Called with two bytes, a function gives what they become together.
abbrev pub Joins : (ℕ → ℕ → ℕ → Type 0) → (ℕ → ℕ → ℕ) → Type 0
Joins called joined = (x y r : ℕ) → x < 2 ^ 8 → y < 2 ^ 8 → called x y r → r ≡ joined x y
