-- The search address as a number.
use Rattle.std.specs.Prelude.{ℕ, ◌+◌, ◌*◌, ◌/◌, ◌%◌, ◌^◌}
use Rattle.units.specs.declared.search_address.SearchAddress.{SearchAddress}

abbrev pub search_number : SearchAddress → ℕ
search_number s = s.high * 2 ^ 16 + s.middle * 2 ^ 8 + s.low

-- The search address that has the three bytes of a number.
abbrev pub search_at : ℕ → SearchAddress
search_at n = record { high = n / 2 ^ 16 % 256; middle = n / 2 ^ 8 % 256; low = n % 256 }

-- FFFFFF, as the units are made.
abbrev pub highest_search : SearchAddress
highest_search = record { high = 0xFF; middle = 0xFF; low = 0xFF }
