-- Random addresses: the number on the wire, the rank, and which numbers are keys.
use Rattle.std.specs.Prelude.{◌≡◌, ℕ, ◌-◌, ◌^◌, ◌≤◌, Some, None, Option}
use Rattle.keys.specs.declared.random_address.RandomAddress.{RandomAddress}

-- The 24-bit number on the wire.
abbrev pub random_number : RandomAddress → ℕ
random_number a = a.value

-- The place among all keys. Others know only its laws, not that it is the same number.
unfoldable pub random_rank : RandomAddress → ℕ
random_rank a = a.value

abbrev pub random_top : ℕ
random_top = 2 ^ 24 - 1

-- r is the key that a number stands for: what does not fit 24 bits is none.
abbrev pub RandomNumbered : ℕ → Option RandomAddress → Type 0
RandomNumbered n None = 2 ^ 24 ≤ n
RandomNumbered n (Some a) = random_number a ≡ n
