-- Which addresses belong to a family.
use Rattle.std.specs.Prelude.{ℕ, ◌+◌, Bool, ◌&&◌, nat_le, nat_lt}
use Rattle.keys.specs.declared.address.Address.{Address}

-- COUNT addresses, from FIRST on.
abbrev pub in_family : ℕ → ℕ → Address → Bool
in_family first count a = nat_le first a.slot && nat_lt a.slot (first + count)
