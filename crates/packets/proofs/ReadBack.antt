-- A packet reads back as itself.
use Rattle.std.proofs.Common.{◌≡◌, ℕ, ◌+◌, ◌-◌, ◌/◌, ◌%◌, ◌^◌, ◌<◌, ◌≤◌, true, List, [], ◌∷◌, ◌++◌, length, get_or, Ok, sym, refl, ap, ◌∙◌, arith, length-append}
use Rattle.std.proofs.lemmas.List.{take_at, get_or_at, get_or-append-add}
use Rattle.std.proofs.lemmas.Bool.{eq-eqb}
use Rattle.std.proofs.lemmas.Bool.Decides.{nat_tests}
use Rattle.octets.specs.Bytes.{two_bytes, six_at, two_at, checksum_of}
use Rattle.packets.specs.Packet.{packet_of, header_bytes, FieldsFit}
use Rattle.packets.specs.Opened.{starts, sized, summed, header_at, payload_at, opened}
use Rattle.packets.specs.declared.header.Header.{Header}

starts_from : (bytes : List ℕ) → 2 ≤ length bytes → get_or bytes 0 0 ≡ 0xCC → get_or bytes 1 0 ≡ 0x01 → starts bytes ≡ true
unfolding starts
starts_from bytes long first second = grind (arith, nat_tests)

sized_from : (bytes : List ℕ) (n : ℕ) → length bytes ≡ 26 + n → get_or bytes 2 0 ≡ 24 + n → get_or bytes 23 0 ≡ n → sized bytes ≡ true
unfolding sized
sized_from bytes n long before size = grind (arith, nat_tests)

-- What stands in two bytes behind others.
two_behind : (body : List ℕ) (n s : ℕ) → length body ≡ n → s < 2 ^ 16 → two_at (body ++ two_bytes s) n ≡ s
two_behind body n s long small =
    let high = get_or_at body (s / 256 % 256) (s % 256 ∷ []) 0 n long in
    let low = ap (λ m. get_or (body ++ two_bytes s) (m + 1) 0) (sym long) ∙ get_or-append-add body (two_bytes s) 1 0 in
    omega (arith, high, low)

summed_from : (body : List ℕ) (s : ℕ) → s ≡ checksum_of body → summed (body ++ two_bytes s) ≡ true
unfolding summed
summed_from body s e =
    let n = length (body ++ two_bytes s) - 2 in
    let long : length body ≡ n = simp length-append (omega arith) in
    let small : s < 2 ^ 16 = omega arith in
    let before = ap checksum_of (take_at body (two_bytes s) n long) in
    eq-eqb _ _ (two_behind body n s long small ∙ e ∙ sym before)

module _ (h : Header) (payload : List ℕ) where
  starts_packet : starts (packet_of h payload) ≡ true
  unfolding packet_of
  starts_packet = starts_from _ (omega arith) refl refl

  sized_packet : sized (packet_of h payload) ≡ true
  unfolding packet_of
  sized_packet = sized_from _ (length payload) (simp length-append (omega arith)) refl refl

  summed_packet : summed (packet_of h payload) ≡ true
  unfolding packet_of
  summed_packet = summed_from (header_bytes h (length payload) ++ payload) _ refl

  header_packet : FieldsFit h → header_at (packet_of h payload) ≡ h
  unfolding header_at packet_of
  header_packet fit =
      let d : six_at (packet_of h payload) 3 ≡ h.destination = omega arith in
      let s : six_at (packet_of h payload) 9 ≡ h.source = omega arith in
      let p : two_at (packet_of h payload) 21 ≡ h.pid = omega arith in
      λ i. record {
        destination = d i;
        source = s i;
        transaction = h.transaction;
        kind = h.kind;
        class = h.class;
        pid = p i;
      }

  payload_packet : payload_at (packet_of h payload) ≡ payload
  unfolding packet_of
  payload_packet = take_at payload _ _ (simp length-append (omega arith))

  pub opened_packet : FieldsFit h → opened (packet_of h payload) ≡ Ok (h, payload)
  opened_packet fit =
      rw (starts_packet, sized_packet, summed_packet)
      (λ i. Ok (header_packet fit i, payload_packet i))
