-- What a fixture reads in bytes.
use Rattle.std.specs.Prelude.{ℕ, cond, List, length, Some, None, Ok, Err, Option, Result, ◌==◌}
use Rattle.refusals.specs.declared.Refusal.{Refusal}
use Rattle.octets.specs.Bytes.{two_at, six_at}
use Rattle.packets.specs.Opened.{opened}
use Rattle.packets.specs.Parameter.{parameter_at}
use Rattle.packets.specs.declared.header.Header.{Header}
use Rattle.packets.specs.declared.parameter.Parameter.{Parameter}
use Rattle.packets.specs.declared.parameter.Parameter.TheVariants as parameter
use Rattle.rdm.specs.declared.received.Asked.{Asked}
use Rattle.rdm.specs.declared.received.Asked.TheVariants.{Branch, Mute, UnMute, DeviceInfo, StartAddress, Other}
use Rattle.rdm.specs.declared.received.Received.{Received}

-- What the data asks about a parameter. Data of another size asks nothing that is known.
abbrev pub asked_of : Option Parameter → List ℕ → Asked
asked_of (Some parameter.Branch) payload =
    cond (length payload == 12) (Branch (six_at payload 0) (six_at payload 6)) Other
asked_of (Some parameter.Mute) payload = cond (length payload == 0) Mute Other
asked_of (Some parameter.UnMute) payload = cond (length payload == 0) UnMute Other
asked_of (Some parameter.DeviceInfo) payload = cond (length payload == 0) DeviceInfo Other
asked_of (Some parameter.StartAddress) payload =
    cond (length payload == 2) (StartAddress (record { slot = two_at payload 0 })) Other
asked_of None payload = Other

abbrev pub received_of : Header → List ℕ → Received
received_of h payload = record {
  destination = h.destination;
  source = h.source;
  transaction = h.transaction;
  asked = asked_of (parameter_at h.class h.pid) payload;
}

abbrev pub question_in : Result (Header × List ℕ) Refusal → Option Received
question_in (Ok (h, payload)) = Some (received_of h payload)
question_in (Err refusal) = None

-- The question that stands in bytes, if they are a packet.
unfoldable pub question_at : List ℕ → Option Received
question_at bytes = question_in (opened bytes)
