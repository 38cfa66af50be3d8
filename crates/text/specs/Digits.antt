-- Digits of a base, and the number that they write.
use Rattle.std.specs.Prelude.{ℕ, ◌+◌, ◌-◌, ◌*◌, cond, ◌&&◌, List, [], ◌∷◌, Some, None, Option, nat_le, nat_lt}

-- 0 to 9, and A to F for 10 to 15.
abbrev pub digit_of : ℕ → Option ℕ
digit_of c =
    cond (nat_le 48 c && nat_le c 57) (Some (c - 48)) (cond (nat_le 65 c && nat_le c 70) (Some (c - 65 + 10)) None)

abbrev pub digit_text : ℕ → ℕ
digit_text d = cond (nat_lt d 10) (48 + d) (55 + d)

abbrev pub below_base : ℕ → Option ℕ → Option ℕ
below_base base (Some d) = cond (nat_lt d base) (Some d) None
below_base base None = None

-- The value of a digit of a base.
unfoldable pub digit_in : ℕ → ℕ → Option ℕ
digit_in base c = below_base base (digit_of c)

-- What is made of a value, if there is one.
abbrev pub and_then : {A B : Type 0} → Option A → (A → Option B) → Option B
and_then (Some x) f = f x
and_then None f = None

-- The number that digits write, after those before.
abbrev pub digits_after : ℕ → ℕ → List ℕ → Option ℕ
digits_after base n [] = Some n
digits_after base n (c ∷ text) = and_then (digit_in base c) (λ d. digits_after base (n * base + d) text)
