-- Each reply reads back as itself.
use Rattle.std.proofs.Common.{◌≡◌, ℕ, ◌-◌, ◌^◌, ◌<◌, true, List, length, take, IfOk, Some, None, Ok, Result, refl, ap, ◌∙◌, arith}
use Rattle.std.proofs.lemmas.Bool.Decides.{nat_tests}
use Rattle.refusals.specs.declared.Refusal.{Refusal}
use Rattle.octets.specs.Writers.{answered, left_in}
use Rattle.octets.proofs.Written.{written_result}
use Rattle.packets.specs.Packet.{FieldsFit}
use Rattle.rdm.specs.ReadReply.{matches, response_at, reply_in, reply_at, expected_by, with_response}
use Rattle.rdm.specs.Reply.{reply_parameter, response_of, response_code, reply_header, reply_payload, reply_frame}
use Rattle.rdm.specs.declared.received.Received.{Received}
use Rattle.rdm.specs.declared.reply.Reply.{Reply}
use Rattle.rdm.specs.declared.reply.Reply.TheVariants.{Muted, UnMuted, Info, AddressTaken, AddressRefused}
use Rattle.rdm.specs.declared.reply.Response.{Response}
use Rattle.rdm.specs.declared.reply.Response.TheVariants.{Ack, Nack}
use Rattle.packets.proofs.Codes.{class_fits, pid_fits}
use Rattle.packets.proofs.ReadBack.{opened_packet}

code_fits : (r : Response) → response_code r < 2 ^ 8
code_fits Ack = omega arith
code_fits Nack = omega arith

module _ (reply : Reply) (q : Received) (to-us : q.source ≡ 0x7FF000000000) (from_key : q.destination < 2 ^ 48 - 1) (small : q.transaction < 2 ^ 8) where
  fields_fit : FieldsFit (reply_header reply q)
  fields_fit = record {
    destination = omega arith;
    source = omega arith;
    transaction = small;
    kind = code_fits (response_of reply);
    class = class_fits (reply_parameter reply);
    pid = pid_fits (reply_parameter reply);
  }

  matching : matches (expected_by reply q) (reply_header reply q) ≡ true
  unfolding matches
  matching = grind (arith, nat_tests)

response_back : (reply : Reply) → response_at (response_code (response_of reply)) (length (reply_payload reply)) ≡ Some (response_of reply)
response_back Muted = refl
response_back UnMuted = refl
response_back (Info info) = refl
response_back AddressTaken = refl
response_back (AddressRefused reason) = refl

pub reply_reads_back : (reply : Reply) (q : Received) → q.transaction < 2 ^ 8 → q.source ≡ 0x7FF000000000 → q.destination < 2 ^ 48 - 1
    → reply_at (expected_by reply q) (reply_frame reply q) ≡ Ok (response_of reply, 24, reply_payload reply)
unfolding reply_at
reply_reads_back reply q small to-us from_key =
    let read = opened_packet (reply_header reply q) (reply_payload reply) (fields_fit reply q to-us from_key small) in
    ap (reply_in (expected_by reply q)) read
    ∙ rw (matching reply q to-us from_key small) (ap (λ r. with_response r (reply_payload reply)) (response_back reply))

-- What is left of a reply in a buffer reads back as itself.
pub reply_written : (reply : Reply) (q : Received) → q.transaction < 2 ^ 8 → (buf after : List ℕ) (r : Result ℕ Refusal)
    → r ≡ answered None (reply_frame reply q) buf
    → after ≡ left_in None (reply_frame reply q) buf
    → q.source ≡ 0x7FF000000000
    → q.destination < 2 ^ 48 - 1
    → IfOk r (λ n. reply_at (expected_by reply q) (take n after) ≡ Ok (response_of reply, 24, reply_payload reply))
reply_written reply q small buf after r answer left to-us from_key =
    written_result None (reply_frame reply q) buf r after
    (λ bytes. reply_at (expected_by reply q) bytes ≡ Ok (response_of reply, 24, reply_payload reply))
    answer
    left
    (λ _. reply_reads_back reply q small to-us from_key)
