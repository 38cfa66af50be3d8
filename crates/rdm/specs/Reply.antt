-- The packets that carry replies.
use Rattle.std.specs.Prelude.{ℕ, ◌+◌, Bool, true, not, List, [], ◌∷◌, ◌++◌, Some, None, Option, ◌==◌}
use Rattle.keys.specs.declared.address.Address.{Address}
use Rattle.octets.specs.Bytes.{two_bytes}
use Rattle.packets.specs.Packet.{packet_of}
use Rattle.packets.specs.Parameter.{class_of, pid_of}
use Rattle.packets.specs.declared.header.Header.{Header}
use Rattle.packets.specs.declared.parameter.Parameter.{Parameter}
use Rattle.packets.specs.declared.parameter.Parameter.TheVariants as parameter
use Rattle.rdm.specs.declared.received.Received.{Received}
use Rattle.rdm.specs.declared.reply.DeviceInfo.{DeviceInfo}
use Rattle.rdm.specs.declared.reply.Reason.{Reason}
use Rattle.rdm.specs.declared.reply.Reason.TheVariants.{UnknownPid, DataOutOfRange}
use Rattle.rdm.specs.declared.reply.Reply.{Reply}
use Rattle.rdm.specs.declared.reply.Reply.TheVariants.{Muted, UnMuted, Info, AddressTaken, AddressRefused}
use Rattle.rdm.specs.declared.reply.Response.{Response}
use Rattle.rdm.specs.declared.reply.Response.TheVariants.{Ack, Nack}

abbrev pub response_code : Response → ℕ
response_code Ack = 0x00
response_code Nack = 0x02

abbrev pub reason_code : Reason → ℕ
reason_code UnknownPid = 0x0000
reason_code DataOutOfRange = 0x0006

abbrev pub reply_parameter : Reply → Parameter
reply_parameter Muted = parameter.Mute
reply_parameter UnMuted = parameter.UnMute
reply_parameter (Info info) = parameter.DeviceInfo
reply_parameter AddressTaken = parameter.StartAddress
reply_parameter (AddressRefused reason) = parameter.StartAddress

abbrev pub response_of : Reply → Response
response_of Muted = Ack
response_of UnMuted = Ack
response_of (Info info) = Ack
response_of AddressTaken = Ack
response_of (AddressRefused reason) = Nack

-- A reply goes back to where the question came from, has its transaction number and parameter, and the class above.
abbrev pub reply_header : Reply → Received → Header
reply_header reply q = record {
  destination = q.source;
  source = q.destination;
  transaction = q.transaction;
  kind = response_code (response_of reply);
  class = class_of (reply_parameter reply) + 1;
  pid = pid_of (reply_parameter reply);
}

-- FFFF stands for no start address.
abbrev pub slot_or_none : Option Address → ℕ
slot_or_none (Some a) = a.slot
slot_or_none None = 0xFFFF

-- Whether the address is not the slot that stands for none.
abbrev pub slot_told : DeviceInfo → Bool
slot_told info = elim info.address [ Some a ↦ not (a.slot == 0xFFFF) | None ↦ true ]

unfoldable pub info_bytes : DeviceInfo → List ℕ
info_bytes info =
    0x01 ∷ 0x00 ∷ 0 ∷ 0 ∷ 0 ∷ 0 ∷ 0 ∷ 0 ∷ 0 ∷ 0
    ∷ (two_bytes info.width ++ (0x01 ∷ 0x01 ∷ (two_bytes (slot_or_none info.address) ++ (0 ∷ 0 ∷ 0 ∷ []))))

abbrev pub reply_payload : Reply → List ℕ
reply_payload Muted = 0x00 ∷ 0x00 ∷ []
reply_payload UnMuted = 0x00 ∷ 0x00 ∷ []
reply_payload (Info info) = info_bytes info
reply_payload AddressTaken = []
reply_payload (AddressRefused reason) = two_bytes (reason_code reason)

abbrev pub reply_frame : Reply → Received → List ℕ
reply_frame reply q = packet_of (reply_header reply q) (reply_payload reply)
