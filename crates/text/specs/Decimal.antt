-- Decimal text.
use Rattle.std.specs.Prelude.{ℕ, Bool, cond, not, ◌&&◌, ◌||◌, List, length, None, Option, ◌==◌, nat_le, slice_index}
use Rattle.text.specs.Digits.{digits_after}

-- One to seven characters, and no leading zero but 0 alone.
abbrev pub fits_decimal : List ℕ → Bool
fits_decimal text =
    nat_le 1 (length text) && (nat_le (length text) 7 && (length text == 1 || not (slice_index text 0 == 48)))

-- The number that a text writes.
abbrev pub decimal_at : List ℕ → Option ℕ
decimal_at text = cond (fits_decimal text) (digits_after 10 0 text) None
