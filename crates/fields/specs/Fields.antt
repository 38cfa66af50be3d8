-- The fields of a line, with one space between them.
use Rattle.std.specs.Prelude.{◌≡◌, ℕ, zero, suc, ◌+◌, ◌≤◌, Bool, cond, not, List, [], length, take, drop, is_some, Some, None, codes, Option, ◌==◌, nat_lt}
use Rattle.std.specs.List.{prefix_len}
use Rattle.std.specs.Str.{bytes_eq}
use Rattle.octets.specs.Buffer.{begun}
use Rattle.text.specs.Decimal.{decimal_at}
use Rattle.text.specs.Digits.{and_then}
use Rattle.text.specs.Hexadecimal.{hex_at, hex_bytes}

-- Whether a text is a word.
unfoldable pub same_word : List ℕ → List ℕ → Bool
same_word text word = bytes_eq text word

abbrev pub is_other : ℕ → Bool
is_other c = not (c == 32)

-- Where the first space of a line is, or its end.
abbrev pub space_at : List ℕ → ℕ
space_at line = prefix_len is_other line

-- The field with a number, counted from 0.
abbrev pub field_at : ℕ → List ℕ → Option (List ℕ)
field_at zero line = Some (take (space_at line) line)
field_at (suc n) line = cond (nat_lt (space_at line) (length line)) (field_at n (drop (space_at line + 1) line)) None

-- A field that is a decimal number.
abbrev pub decimal_field : ℕ → List ℕ → Option ℕ
decimal_field n line = and_then (field_at n line) decimal_at

-- A field that is a hexadecimal number.
abbrev pub hex_field : ℕ → List ℕ → Option ℕ
hex_field n line = and_then (field_at n line) hex_at

-- A hexadecimal number of so many digits.
abbrev pub hex_of_size : ℕ → List ℕ → Option ℕ
hex_of_size digits text = cond (length text == digits) (hex_at text) None

abbrev pub byte_field : ℕ → List ℕ → Option ℕ
byte_field n line = and_then (field_at n line) (hex_of_size 2)

abbrev pub two_byte_field : ℕ → List ℕ → Option ℕ
two_byte_field n line = and_then (field_at n line) (hex_of_size 4)

-- What stands in the last field.
abbrev pub last_field : ℕ → List ℕ → Option (List ℕ)
last_field n line = cond (is_some (field_at (n + 1) line)) None (field_at n line)

abbrev pub last_decimal : ℕ → List ℕ → Option ℕ
last_decimal n line = and_then (last_field n line) decimal_at

-- Bytes in two digits each, or - for none.
abbrev pub bytes_in : List ℕ → Option (List ℕ)
bytes_in text = cond (same_word text (codes "-")) (Some []) (cond (length text == 0) None (hex_bytes text))

abbrev pub last_bytes : ℕ → List ℕ → Option (List ℕ)
last_bytes n line = and_then (last_field n line) bytes_in

-- A buffer with bytes at its beginning, if there are any to be written.
abbrev pub bytes_begun : Option (List ℕ) → List ℕ → List ℕ
bytes_begun (Some bytes) buf = begun buf bytes
bytes_begun None buf = buf

-- What was read of bytes: so many, at the beginning of a buffer.
abbrev pub BytesAt : Option (List ℕ) → Option ℕ → List ℕ → Type 0
BytesAt o None buf = o ≡ None
BytesAt o (Some size) buf = (size ≤ length buf) × (o ≡ Some (take size buf))
