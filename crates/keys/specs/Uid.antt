-- Unique identifiers: the number on the wire, the rank, and which numbers are keys.
use Rattle.std.specs.Prelude.{◌≡◌, ℕ, ◌+◌, ◌-◌, ◌*◌, ◌^◌, ◌≤◌, Some, None, Option}
use Rattle.keys.specs.declared.uid.Uid.{Uid}

-- The 48-bit number on the wire.
abbrev pub uid_number : Uid → ℕ
uid_number u = u.manufacturer * 2 ^ 32 + u.device

-- The place among all keys. Others know only its laws, not that it is the same number.
unfoldable pub uid_rank : Uid → ℕ
uid_rank u = u.manufacturer * 2 ^ 32 + u.device

abbrev pub uid_top : ℕ
uid_top = 2 ^ 48 - 2

-- r is the key that a number stands for: FFFFFFFFFFFF, the broadcast, and what does not fit 48 bits are none.
abbrev pub Numbered : ℕ → Option Uid → Type 0
Numbered n None = 2 ^ 48 - 1 ≤ n
Numbered n (Some u) = uid_number u ≡ n
