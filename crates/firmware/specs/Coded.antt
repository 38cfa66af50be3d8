-- An answer as one number.
use Rattle.std.specs.Prelude.{ℕ, length, ℤ, pos, neg_ℤ, Ok, Err, Result}
use Rattle.refusals.specs.Numbers.{number_of}
use Rattle.refusals.specs.declared.Refusal.{Refusal}
use Rattle.rdm.specs.ReadReply.{DataOfReply}
use Rattle.rdm.specs.Reply.{response_code}

-- What was answered, or minus the number of the refusal.
abbrev pub coded : Result ℕ Refusal → ℤ
coded (Ok n) = pos n
coded (Err refusal) = neg_ℤ (pos (number_of refusal))

-- The response of a reply, and how much data it has.
abbrev pub reply_kind : Result DataOfReply Refusal → Result ℕ Refusal
reply_kind (Ok (response, place, payload)) = Ok (response_code response)
reply_kind (Err refusal) = Err refusal

abbrev pub reply_size : Result DataOfReply Refusal → Result ℕ Refusal
reply_size (Ok (response, place, payload)) = Ok (length payload)
reply_size (Err refusal) = Err refusal
