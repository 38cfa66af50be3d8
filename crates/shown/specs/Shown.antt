-- Refusals, bytes, keys and replies, as text.
use Rattle.std.specs.Prelude.{ℕ, List, [], ◌∷◌, ◌++◌, Ok, Err, codes, decimal, Result}
use Rattle.refusals.specs.Numbers.{number_of}
use Rattle.refusals.specs.declared.Refusal.{Refusal}
use Rattle.octets.specs.Bytes.{six_bytes}
use Rattle.rdm.specs.ReadReply.{DataOfReply}
use Rattle.rdm.specs.declared.reply.Response.{Response}
use Rattle.rdm.specs.declared.reply.Response.TheVariants.{Ack, Nack}
use Rattle.text.specs.Hexadecimal.{hex_text}

-- ! N
unfoldable pub refusal_text : Refusal → List ℕ
refusal_text refusal = codes "! " ++ decimal (number_of refusal)

-- Bytes, or - for none.
abbrev pub bytes_text : List ℕ → List ℕ
bytes_text [] = codes "-"
bytes_text (b ∷ bytes) = hex_text (b ∷ bytes)

abbrev pub response_text : Response → List ℕ
response_text Ack = codes "yes "
response_text Nack = codes "no "

-- yes PLACE DATA, no PLACE REASON.
unfoldable pub read_reply_text : Response → ℕ → List ℕ → List ℕ
read_reply_text response place payload = response_text response ++ (decimal place ++ (codes " " ++ bytes_text payload))

-- The same, or the refusal.
abbrev pub reply_text : Result DataOfReply Refusal → List ℕ
reply_text (Ok (response, place, payload)) = read_reply_text response place payload
reply_text (Err refusal) = refusal_text refusal

-- The key, or the refusal.
abbrev pub key_text : Result ℕ Refusal → List ℕ
key_text (Ok n) = hex_text (six_bytes n)
key_text (Err refusal) = refusal_text refusal
