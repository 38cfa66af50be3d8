-- The bytes of an RDM packet.
use Rattle.std.specs.Prelude.{ℕ, ◌+◌, ◌^◌, ◌<◌, List, [], ◌∷◌, ◌++◌, length}
use Rattle.octets.specs.Bytes.{two_bytes, six_bytes, checksum_of}
use Rattle.packets.specs.declared.header.Header.{Header}

-- The 24 bytes before the data, of which there are so many.
abbrev pub header_bytes : Header → ℕ → List ℕ
header_bytes h size =
    0xCC ∷ 0x01 ∷ (24 + size)
    ∷ (six_bytes h.destination
    ++ (six_bytes h.source
    ++ (h.transaction ∷ h.kind ∷ 0 ∷ 0 ∷ 0 ∷ h.class ∷ (two_bytes h.pid ++ (size ∷ [])))))

-- Bytes with their checksum behind them.
abbrev pub sealed : List ℕ → List ℕ
sealed bytes = bytes ++ two_bytes (checksum_of bytes)

unfoldable pub packet_of : Header → List ℕ → List ℕ
packet_of h payload = sealed (header_bytes h (length payload) ++ payload)

-- Each field fits the bytes that it has.
pub record FieldsFit (h : Header) : Type 0 where
  pub destination : h.destination < 2 ^ 48
  pub source : h.source < 2 ^ 48
  pub transaction : h.transaction < 2 ^ 8
  pub kind : h.kind < 2 ^ 8
  pub class : h.class < 2 ^ 8
  pub pid : h.pid < 2 ^ 16
