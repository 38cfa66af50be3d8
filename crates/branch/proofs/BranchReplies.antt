-- Branch replies: their size, and how they come to stand in a buffer.
use Rattle.std.proofs.Common.{◌≡◌, ℕ, ◌+◌, ◌*◌, ◌<◌, List, [], ◌∷◌, ◌++◌, length, get_or, take, drop, sym, refl, ap, ◌∙◌, arith}
use lib.Bits.{bit_or}
use Rattle.std.proofs.lemmas.List.{take_more}
use Rattle.std.specs.Borrow.{MutBor}
use Rattle.octets.specs.Writer.{Lent, Wrote}
use Rattle.octets.specs.declared.writer.Writer.{Writer}
use Rattle.octets.proofs.Writing.{wrote_more, wrote_next, reads_written}
use Rattle.octets.specs.Bytes.{two_bytes, six_bytes, checksum_of}
use Rattle.branch.specs.BranchReply.{lead_bytes, pairs_of, branch_reply}

pub length-reply : (n : ℕ) → length (branch_reply n) ≡ 24
unfolding branch_reply
length-reply n = refl

pub length_pairs : (bytes : List ℕ) → length (pairs_of bytes) ≡ 2 * length bytes
length_pairs [] = refl
length_pairs (b ∷ bytes) = let ih = length_pairs bytes in omega arith

pairs_append : (xs ys : List ℕ) → pairs_of xs ++ pairs_of ys ≡ pairs_of (xs ++ ys)
pairs_append [] ys = refl
pairs_append (b ∷ xs) ys = ap (λ pairs. bit_or b 0xAA ∷ bit_or b 0x55 ∷ pairs) (pairs_append xs ys)

-- One byte more.
pub pairs_more : (bytes : List ℕ) (i : ℕ) → i < length bytes
    → pairs_of (take i bytes) ++ (bit_or (get_or bytes i 0) 0xAA ∷ bit_or (get_or bytes i 0) 0x55 ∷ []) ≡ pairs_of (take (i + 1) bytes)
pairs_more bytes i more =
    pairs_append (take i bytes) (get_or bytes i 0 ∷ []) ∙ ap pairs_of (sym (take_more bytes i 0 more))

-- The lead, the pairs of the key and those of their sum, written one behind the other, are the reply.
pub wrote_reply : (buf : MutBor (List ℕ)) (n sum : ℕ) (a b c d : Writer)
    → Lent buf a
    → Wrote a lead_bytes b
    → Wrote b (pairs_of (six_bytes n)) c
    → sum ≡ checksum_of (drop 8 (take c.end c.buf.now))
    → Wrote c (pairs_of (two_bytes sum)) d
    → Wrote a (branch_reply n) d
unfolding branch_reply
wrote_reply buf n sum a b c d lent lead key is seal =
    let pairs = pairs_of (six_bytes n) in
    let body = wrote_more a b c lead_bytes pairs lead key in
    let summed : sum ≡ checksum_of pairs = is ∙ ap (λ bytes. checksum_of (drop 8 bytes)) (reads_written buf a c _ lent body) in
    wrote_next a c d _ (pairs_of (two_bytes sum)) _ body seal (ap (λ m. (lead_bytes ++ pairs) ++ pairs_of (two_bytes m)) summed)
