-- The sizes of answers.
use Rattle.std.proofs.Common.{◌≡◌, ℕ, ◌<◌, ◌≤◌, length, decimal, arith}
use Rattle.std.proofs.lemmas.Fmt.{length-decimal-le}
use Rattle.refusals.specs.Numbers.{number_of}
use Rattle.refusals.specs.declared.Refusal.{Refusal}
use Rattle.refusals.specs.declared.Refusal.TheVariants.{NotAKey, LowerAboveUpper, AddressOutside, BufferTooShort, WrongStart, WrongLength, MissingBits, WrongChecksum, NoMatch, Malformed, AboveLimit, KeyTwice, OtherKind, WrongPhase, BookFull, Contradicted, QuestionsSpent, NoAnswer, TooWide}
use Rattle.rdm.specs.declared.reply.Response.{Response}
use Rattle.rdm.specs.declared.reply.Response.TheVariants.{Ack, Nack}
use Rattle.shown.specs.Shown.{response_text}

number_small : (r : Refusal) → number_of r < 26
number_small NotAKey = omega arith
number_small LowerAboveUpper = omega arith
number_small AddressOutside = omega arith
number_small BufferTooShort = omega arith
number_small WrongStart = omega arith
number_small WrongLength = omega arith
number_small MissingBits = omega arith
number_small WrongChecksum = omega arith
number_small NoMatch = omega arith
number_small Malformed = omega arith
number_small AboveLimit = omega arith
number_small KeyTwice = omega arith
number_small OtherKind = omega arith
number_small WrongPhase = omega arith
number_small BookFull = omega arith
number_small Contradicted = omega arith
number_small QuestionsSpent = omega arith
number_small NoAnswer = omega arith
number_small TooWide = omega arith

pub number_short : (r : Refusal) → length (decimal (number_of r)) ≤ 2
number_short r = let small = number_small r in length-decimal-le 2 (number_of r) (omega arith) (omega arith) (omega arith)

pub response_short : (r : Response) → length (response_text r) ≤ 4
response_short Ack = omega arith
response_short Nack = omega arith

pub place_short : (place : ℕ) → place ≡ 24 → length (decimal place) ≤ 2
place_short place is = length-decimal-le 2 place (omega arith) (omega arith) (omega arith)
