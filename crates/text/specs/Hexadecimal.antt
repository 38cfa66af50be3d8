-- Hexadecimal text, in capital digits.
use Rattle.std.specs.Prelude.{ℕ, ◌+◌, ◌*◌, ◌/◌, ◌%◌, Bool, cond, ◌&&◌, List, [], ◌∷◌, length, is_some, Some, None, Option, ◌==◌, nat_le, nat_lt}
use Rattle.std.specs.Option.{unwrap_or}
use Rattle.std.specs.List.{flat_map, list_all}
use Rattle.octets.specs.Buffer.{begun}
use Rattle.text.specs.Digits.{digit_of, digit_text, digits_after}

-- The number that one to sixteen digits write.
abbrev pub hex_at : List ℕ → Option ℕ
hex_at text = cond (nat_le 1 (length text) && nat_le (length text) 16) (digits_after 16 0 text) None

-- A byte is two digits.
abbrev pub byte_text : ℕ → List ℕ
byte_text b = digit_text (b / 16) ∷ digit_text (b % 16) ∷ []

abbrev pub hex_text : List ℕ → List ℕ
hex_text bytes = flat_map byte_text bytes

abbrev pub all_hex : List ℕ → Bool
all_hex text = list_all (λ c. is_some (digit_of c)) text

-- The byte that two digits write.
unfoldable pub byte_of : ℕ → ℕ → ℕ
byte_of a b = unwrap_or (digit_of a) 0 * 16 + unwrap_or (digit_of b) 0

abbrev pub bytes_of : List ℕ → List ℕ
bytes_of [] = []
bytes_of (a ∷ []) = []
bytes_of (a ∷ b ∷ text) = byte_of a b ∷ bytes_of text

unfoldable pub hex_pairs : List ℕ → Bool
hex_pairs text = length text % 2 == 0 && all_hex text

-- The bytes that pairs of digits write.
abbrev pub hex_bytes : List ℕ → Option (List ℕ)
hex_bytes text = cond (hex_pairs text) (Some (bytes_of text)) None

-- What is answered of them, and left in a buffer: nothing is read if there is no room.
abbrev pub bytes_read : Option (List ℕ) → List ℕ → Option ℕ
bytes_read (Some bytes) buf = cond (nat_lt (length buf) (length bytes)) None (Some (length bytes))
bytes_read None buf = None

abbrev pub bytes_left : Option (List ℕ) → List ℕ → List ℕ
bytes_left (Some bytes) buf = cond (nat_lt (length buf) (length bytes)) buf (begun buf bytes)
bytes_left None buf = buf
