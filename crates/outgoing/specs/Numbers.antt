-- The same frames by the numbers that stand for keys and addresses outside, and what is refused of those.
use Rattle.std.specs.Prelude.{◌≡◌, ℕ, ◌+◌, ◌-◌, ◌*◌, ◌^◌, ◌≤◌, Bool, cond, ◌&&◌, List, [], ◌∷◌, Some, None, Option, nat_le, nat_lt}
use Rattle.refusals.specs.declared.Refusal.{Refusal}
use Rattle.refusals.specs.declared.Refusal.TheVariants.{NotAKey, LowerAboveUpper, AddressOutside}
use Rattle.octets.specs.Bytes.{two_bytes}
use Rattle.packets.specs.Packet.{packet_of}
use Rattle.rdm.specs.Question.{question_header, ends_bytes, destination_number}
use Rattle.rdm.specs.declared.question.Destination.{Destination}
use Rattle.packets.specs.declared.parameter.Parameter.TheVariants.{Branch, Mute, UnMute, DeviceInfo, StartAddress}

-- Every 48-bit number but the broadcast is a key.
abbrev pub is_key : ℕ → Bool
is_key n = nat_lt n (2 ^ 48 - 1)

abbrev pub unless_key : ℕ → Option Refusal → Option Refusal
unless_key n then-refused = cond (is_key n) then-refused (Some NotAKey)

-- Both ends are keys, and in order.
abbrev pub branch_refusal : ℕ → ℕ → Option Refusal
branch_refusal lo hi = unless_key lo (unless_key hi (cond (nat_lt hi lo) (Some LowerAboveUpper) None))

abbrev pub branch_frame : ℕ → ℕ → ℕ → List ℕ
branch_frame transaction lo hi = packet_of (question_header (2 ^ 48 - 1) transaction Branch) (ends_bytes lo hi)

-- A key, or the broadcast.
abbrev pub destination_refusal : ℕ → Option Refusal
destination_refusal n = cond (nat_le n (2 ^ 48 - 1)) None (Some NotAKey)

-- r is the destination that a number stands for.
abbrev pub Destined : ℕ → Option Destination → Type 0
Destined n None = 2 ^ 48 ≤ n
Destined n (Some d) = destination_number d ≡ n

abbrev pub mute_frame : ℕ → ℕ → List ℕ
mute_frame transaction n = packet_of (question_header n transaction Mute) []

abbrev pub un_mute_frame : ℕ → ℕ → List ℕ
un_mute_frame transaction n = packet_of (question_header n transaction UnMute) []

abbrev pub key_refusal : ℕ → Option Refusal
key_refusal n = unless_key n None

abbrev pub info_frame : ℕ → ℕ → List ℕ
info_frame transaction n = packet_of (question_header n transaction DeviceInfo) []

-- A key, and one of the addresses 1 to 512.
abbrev pub start_refusal : ℕ → ℕ → Option Refusal
start_refusal n slot = unless_key n (cond (nat_le 1 slot && nat_le slot 512) None (Some AddressOutside))

abbrev pub start_frame : ℕ → ℕ → ℕ → List ℕ
start_frame transaction n slot = packet_of (question_header n transaction StartAddress) (two_bytes slot)

-- Every 24-bit number is a random address.
abbrev pub search_refusal : ℕ → Option Refusal
search_refusal n = cond (nat_lt n (2 ^ 24)) None (Some NotAKey)

-- One of the addresses 0 to 63.
abbrev pub program_refusal : ℕ → Option Refusal
program_refusal slot = cond (nat_lt slot 64) None (Some AddressOutside)

abbrev pub program_bytes : ℕ → List ℕ
program_bytes slot = 0xB7 ∷ (2 * slot + 1) ∷ []
