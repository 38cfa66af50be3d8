-- What a writer answers in a buffer of so many bytes.
use Rattle.std.specs.Prelude.{ℕ, cond, List, length, Some, None, Ok, Err, Option, Result, nat_lt}
use Rattle.refusals.specs.declared.Refusal.{Refusal}
use Rattle.refusals.specs.declared.Refusal.TheVariants.{BufferTooShort}

abbrev pub answered_in : Option Refusal → List ℕ → ℕ → Result ℕ Refusal
answered_in (Some refusal) frame room = Err refusal
answered_in None frame room = cond (nat_lt room (length frame)) (Err BufferTooShort) (Ok (length frame))
