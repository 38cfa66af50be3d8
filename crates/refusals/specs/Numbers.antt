-- The number of each refusal.
use Rattle.std.specs.Prelude.{ℕ}
use Rattle.refusals.specs.declared.Refusal.{Refusal}
use Rattle.refusals.specs.declared.Refusal.TheVariants.{NotAKey, LowerAboveUpper, AddressOutside, BufferTooShort, WrongStart, WrongLength, MissingBits, WrongChecksum, NoMatch, Malformed, AboveLimit, KeyTwice, OtherKind, WrongPhase, BookFull, Contradicted, QuestionsSpent, NoAnswer, TooWide}

abbrev pub number_of : Refusal → ℕ
number_of NotAKey = 1
number_of LowerAboveUpper = 2
number_of AddressOutside = 3
number_of BufferTooShort = 4
number_of WrongStart = 5
number_of WrongLength = 6
number_of MissingBits = 7
number_of WrongChecksum = 8
number_of NoMatch = 9
number_of Malformed = 10
number_of AboveLimit = 11
number_of KeyTwice = 12
number_of OtherKind = 13
number_of WrongPhase = 20
number_of BookFull = 21
number_of Contradicted = 22
number_of QuestionsSpent = 23
number_of NoAnswer = 24
number_of TooWide = 25
