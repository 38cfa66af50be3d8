-- What every writer answers, and what it leaves in the buffer: over the refusal that its arguments earn, or none, and
-- the bytes that it writes.
use Rattle.std.specs.Prelude.{ℕ, cond, List, length, Some, None, Ok, Err, Option, Result, nat_lt}
use Rattle.octets.specs.Buffer.{begun}
use Rattle.refusals.specs.declared.Refusal.{Refusal}
use Rattle.refusals.specs.declared.Refusal.TheVariants.{BufferTooShort}

-- The length of what was written, or the first refusal: that of the arguments, then a buffer that is too short.
abbrev pub answered : Option Refusal → List ℕ → List ℕ → Result ℕ Refusal
answered (Some refusal) bytes buf = Err refusal
answered None bytes buf = cond (nat_lt (length buf) (length bytes)) (Err BufferTooShort) (Ok (length bytes))

-- The bytes, and behind them what was there before; everything as it was after a refusal.
abbrev pub left_in : Option Refusal → List ℕ → List ℕ → List ℕ
left_in (Some refusal) bytes buf = buf
left_in None bytes buf = cond (nat_lt (length buf) (length bytes)) buf (begun buf bytes)
