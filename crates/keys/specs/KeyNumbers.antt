-- Which numbers on the wire stand for keys.
use Rattle.std.specs.Prelude.{ℕ, ◌-◌, ◌^◌, Bool, nat_lt}

-- FFFFFFFFFFFF: all fixtures, and no key.
abbrev pub broadcast : ℕ
broadcast = 2 ^ 48 - 1

-- Every number of 48 bits but the broadcast is a unique identifier.
abbrev pub is_uid_number : ℕ → Bool
is_uid_number n = nat_lt n broadcast

-- Every number of 24 bits is a random address.
abbrev pub is_random_number : ℕ → Bool
is_random_number n = nat_lt n (2 ^ 24)
