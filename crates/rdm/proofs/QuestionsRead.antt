-- A question is read where its packet is, and nowhere else.
use Rattle.std.proofs.Common.{◌≡◌, Some, None, Ok, Err, Option, Result, refl, sym, ap, ◌∙◌}
use Rattle.std.specs.Result.{result_ok}
use Rattle.refusals.specs.declared.Refusal.{Refusal}
use Rattle.packets.specs.Opened.{held}
use Rattle.packets.specs.declared.packet.Packet.{Packet}
use Rattle.rdm.specs.declared.received.Received.{Received}
use Rattle.rdm.specs.Received.{question_in, received_of}

-- The question of a packet that was read, if one was.
abbrev pub question_of : Option Packet → Option Received
question_of (Some p) = Some (received_of p.header p.payload.now)
question_of None = None

question_of_read : (r : Result Packet Refusal) → question_in (held r) ≡ question_of (result_ok r)
question_of_read (Ok p) = refl
question_of_read (Err refusal) = refl

pub question_read : (r : Result Packet Refusal) (o p : Option Packet) → o ≡ result_ok r → o ≡ p → question_of p ≡ question_in (held r)
question_read r o p ok is = sym (question_of_read r ∙ ap question_of (sym ok ∙ is))
