-- Packets: their size, and how they come to stand in a buffer.
use Rattle.std.proofs.Common.{◌≡◌, ℕ, ◌+◌, List, ◌++◌, length, take, ap, ◌∙◌, arith, length-append}
use Rattle.std.specs.Borrow.{MutBor}
use Rattle.octets.specs.Writer.{Lent, Wrote}
use Rattle.octets.specs.declared.writer.Writer.{Writer}
use Rattle.octets.proofs.Writing.{wrote_more, wrote_next, reads_written}
use Rattle.octets.specs.Bytes.{two_bytes, checksum_of}
use Rattle.packets.specs.Packet.{packet_of, header_bytes}
use Rattle.packets.specs.declared.header.Header.{Header}

pub length-packet : (h : Header) (payload : List ℕ) → length (packet_of h payload) ≡ 26 + length payload
unfolding packet_of
length-packet h payload = simp length-append (omega arith)

-- The header, the data and the sum of both, written one behind the other, are the packet.
pub wrote_packet : (buf : MutBor (List ℕ)) (h : Header) (payload : List ℕ) (a b c d : Writer) (sum : ℕ)
    → Lent buf a
    → Wrote a (header_bytes h (length payload)) b
    → Wrote b payload c
    → sum ≡ checksum_of (take c.end c.buf.now)
    → Wrote c (two_bytes sum) d
    → Wrote a (packet_of h payload) d
unfolding packet_of
wrote_packet buf h payload a b c d sum lent head rest is seal =
    let body = wrote_more a b c (header_bytes h (length payload)) payload head rest in
    let summed = is ∙ ap checksum_of (reads_written buf a c _ lent body) in
    wrote_next a c d _ (two_bytes sum) _ body seal (ap (λ n. (header_bytes h (length payload) ++ payload) ++ two_bytes n) summed)
