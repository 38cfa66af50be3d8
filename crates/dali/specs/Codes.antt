-- Which pairs of bytes are named frames.
use Rattle.std.specs.Prelude.{ℕ, ◌%◌, Bool, ◌&&◌, ◌||◌, ◌==◌, nat_lt}

-- The second byte of a short address: the address in bits 1 to 6, and bit 0 set.
abbrev pub is_short : ℕ → Bool
is_short b = b % 2 == 1 && nat_lt b 128

-- The first bytes that are a command with 00 behind them.
abbrev pub is_command : ℕ → Bool
is_command a = a == 0xA1 || (a == 0xA5 || (a == 0xA9 || (a == 0xAB || a == 0xBB)))

-- The second bytes that are a command with B7 before them.
abbrev pub is_program : ℕ → Bool
is_program b = b == 0xFF || is_short b

-- The first bytes that are a command with any byte behind them.
abbrev pub is_search : ℕ → Bool
is_search a = a == 0xB1 || (a == 0xB3 || a == 0xB5)

abbrev pub named : ℕ → ℕ → Bool
named a b = is_search a || ((a == 0xB7 && is_program b) || (is_command a && b == 0x00))
