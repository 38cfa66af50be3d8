-- What bytes hold as an RDM packet, or why they are none.
use Rattle.std.specs.Prelude.{ℕ, ◌+◌, ◌-◌, Bool, cond, not, ◌&&◌, List, length, take, drop, Ok, Err, Result, ◌==◌, nat_le, slice_index}
use Rattle.refusals.specs.declared.Refusal.{Refusal}
use Rattle.refusals.specs.declared.Refusal.TheVariants.{WrongStart, WrongLength, WrongChecksum}
use Rattle.octets.specs.Bytes.{two_at, six_at, checksum_of}
use Rattle.packets.specs.declared.header.Header.{Header}
use Rattle.packets.specs.declared.packet.Packet.{Packet}

-- Bytes 0 and 1 are the start codes.
unfoldable pub starts : List ℕ → Bool
starts bytes = nat_le 2 (length bytes) && (slice_index bytes 0 == 0xCC && slice_index bytes 1 == 0x01)

-- Byte 2 counts the bytes before the checksum, and byte 23 those of the data.
unfoldable pub sized : List ℕ → Bool
sized bytes =
    nat_le 26 (length bytes)
    && (slice_index bytes 2 + 2 == length bytes && slice_index bytes 2 == 24 + slice_index bytes 23)

-- The last two bytes are the sum of all before them.
unfoldable pub summed : List ℕ → Bool
summed bytes = two_at bytes (length bytes - 2) == checksum_of (take (length bytes - 2) bytes)

-- The fields. Bytes 17 to 19 are not looked at.
unfoldable pub header_at : List ℕ → Header
header_at bytes = record {
  destination = six_at bytes 3;
  source = six_at bytes 9;
  transaction = slice_index bytes 15;
  kind = slice_index bytes 16;
  class = slice_index bytes 20;
  pid = two_at bytes 21;
}

abbrev pub payload_at : List ℕ → List ℕ
payload_at bytes = take (length bytes - 26) (drop 24 bytes)

-- The header and the data, or the first refusal.
abbrev pub opened : List ℕ → Result (Header × List ℕ) Refusal
opened bytes =
    cond (not (starts bytes)) (Err WrongStart)
    (cond (not (sized bytes)) (Err WrongLength)
    (cond (not (summed bytes)) (Err WrongChecksum) (Ok (header_at bytes, payload_at bytes))))

-- What a reader answered, by what its slice holds.
abbrev pub held : Result Packet Refusal → Result (Header × List ℕ) Refusal
held (Ok p) = Ok (p.header, p.payload.now)
held (Err refusal) = Err refusal
