-- The packets that carry questions.
use Rattle.std.specs.Prelude.{ℕ, ◌-◌, ◌^◌, cond, List, [], ◌++◌, Some, None, Option, nat_lt}
use Rattle.keys.specs.Address.{in_family}
use Rattle.keys.specs.Uid.{uid_number}
use Rattle.refusals.specs.declared.Refusal.{Refusal}
use Rattle.refusals.specs.declared.Refusal.TheVariants.{LowerAboveUpper, AddressOutside}
use Rattle.octets.specs.Bytes.{two_bytes, six_bytes}
use Rattle.packets.specs.Packet.{packet_of}
use Rattle.packets.specs.Parameter.{class_of, pid_of}
use Rattle.packets.specs.declared.header.Header.{Header}
use Rattle.packets.specs.declared.parameter.Parameter.{Parameter}
use Rattle.packets.specs.declared.parameter.Parameter.TheVariants as parameter
use Rattle.rdm.specs.declared.question.Destination.{Destination}
use Rattle.rdm.specs.declared.question.Destination.TheVariants.{All, One}
use Rattle.rdm.specs.declared.received.Asked.{Asked}
use Rattle.rdm.specs.declared.received.Asked.TheVariants as asked
use Rattle.rdm.specs.declared.received.Received.{Received}
use Rattle.rdm.specs.declared.question.Question.{Question}
use Rattle.rdm.specs.declared.question.Question.TheVariants.{Branch, Mute, UnMute, DeviceInfo, StartAddress}

-- FFFFFFFFFFFF is the broadcast.
abbrev pub destination_number : Destination → ℕ
destination_number All = 2 ^ 48 - 1
destination_number (One key) = uid_number key

abbrev pub parameter_of : Question → Parameter
parameter_of (Branch r) = parameter.Branch
parameter_of (Mute d) = parameter.Mute
parameter_of (UnMute d) = parameter.UnMute
parameter_of (DeviceInfo key) = parameter.DeviceInfo
parameter_of (StartAddress key a) = parameter.StartAddress

-- Whom a question goes to.
abbrev pub destination_of : Question → Destination
destination_of (Branch r) = All
destination_of (Mute d) = d
destination_of (UnMute d) = d
destination_of (DeviceInfo key) = One key
destination_of (StartAddress key a) = One key

-- The controller is 7FF000000000, and its port is 1.
abbrev pub question_header : ℕ → ℕ → Parameter → Header
question_header destination transaction p = record {
  destination = destination;
  source = 0x7FF000000000;
  transaction = transaction;
  kind = 0x01;
  class = class_of p;
  pid = pid_of p;
}

abbrev pub header_of : Question → ℕ → Header
header_of q transaction = question_header (destination_number (destination_of q)) transaction (parameter_of q)

-- The ends of a range: six bytes each.
unfoldable pub ends_bytes : ℕ → ℕ → List ℕ
ends_bytes lo hi = six_bytes lo ++ six_bytes hi

abbrev pub question_payload : Question → List ℕ
question_payload (Branch r) = ends_bytes (uid_number r.lo) (uid_number r.hi)
question_payload (Mute d) = []
question_payload (UnMute d) = []
question_payload (DeviceInfo key) = []
question_payload (StartAddress key a) = two_bytes a.slot

abbrev pub question_frame : Question → ℕ → List ℕ
question_frame q transaction = packet_of (header_of q transaction) (question_payload q)

-- What is refused before the buffer is looked at.
abbrev pub question_refusal : Question → Option Refusal
question_refusal (Branch r) = cond (nat_lt (uid_number r.hi) (uid_number r.lo)) (Some LowerAboveUpper) None
question_refusal (Mute d) = None
question_refusal (UnMute d) = None
question_refusal (DeviceInfo key) = None
question_refusal (StartAddress key a) = cond (in_family 1 512 a) None (Some AddressOutside)

-- What a fixture is to read of a question.
abbrev pub asked_by : Question → Asked
asked_by (Branch r) = asked.Branch (uid_number r.lo) (uid_number r.hi)
asked_by (Mute d) = asked.Mute
asked_by (UnMute d) = asked.UnMute
asked_by (DeviceInfo key) = asked.DeviceInfo
asked_by (StartAddress key a) = asked.StartAddress a

abbrev pub heard : Question → ℕ → Received
heard q transaction = record {
  destination = destination_number (destination_of q);
  source = 0x7FF000000000;
  transaction = transaction;
  asked = asked_by q;
}
