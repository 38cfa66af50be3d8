-- Each question reads back as itself.
use Rattle.std.proofs.Common.{◌≡◌, ℕ, ◌^◌, ◌<◌, List, take, IfOk, Some, None, Result, refl, ap, ◌∙◌, ap₂, arith}
use Rattle.std.proofs.lemmas.Bool.Decides.{nat_tests}
use Rattle.octets.specs.Bytes.{two_at, two_bytes}
use Rattle.refusals.specs.declared.Refusal.{Refusal}
use Rattle.octets.specs.Writers.{answered, left_in}
use Rattle.octets.proofs.Written.{written_result}
use Rattle.packets.specs.Packet.{FieldsFit}
use Rattle.packets.specs.Parameter.{class_of, pid_of, parameter_at}
use Rattle.rdm.specs.Question.{header_of, question_payload, question_frame, question_refusal, heard, ends_bytes, destination_number, destination_of, parameter_of, asked_by}
use Rattle.rdm.specs.Received.{question_at, question_in, asked_of}
use Rattle.rdm.specs.declared.question.Destination.{Destination}
use Rattle.rdm.specs.declared.question.Destination.TheVariants.{All, One}
use Rattle.rdm.specs.declared.received.Asked.TheVariants as asked
use Rattle.rdm.specs.declared.question.Question.{Question}
use Rattle.rdm.specs.declared.question.Question.TheVariants.{Branch, Mute, UnMute, DeviceInfo, StartAddress}
use Rattle.packets.proofs.Codes.{class_fits, pid_fits}
use Rattle.packets.proofs.ReadBack.{opened_packet}

destination_fits : (d : Destination) → destination_number d < 2 ^ 48
destination_fits All = omega arith
destination_fits (One key) = omega arith

fields_fit : (q : Question) (tn : ℕ) → tn < 2 ^ 8 → FieldsFit (header_of q tn)
fields_fit q tn small = record {
  destination = destination_fits (destination_of q);
  source = omega arith;
  transaction = small;
  kind = omega arith;
  class = omega (arith, class_fits (parameter_of q));
  pid = pid_fits (parameter_of q);
}

asked_back : (q : Question) → question_refusal q ≡ None
    → asked_of (parameter_at (class_of (parameter_of q)) (pid_of (parameter_of q))) (question_payload q) ≡ asked_by q
unfolding ends_bytes
asked_back (Branch r) fine = ap₂ asked.Branch (omega arith) (omega arith)
asked_back (Mute d) fine = refl
asked_back (UnMute d) fine = refl
asked_back (DeviceInfo key) fine = refl
asked_back (StartAddress key a) fine =
    let small : a.slot < 2 ^ 16 = grind (arith, nat_tests) in
    let same : two_at (two_bytes a.slot) 0 ≡ a.slot = omega arith in
    ap (λ n. asked.StartAddress (record { slot = n })) same

pub question_reads_back : (q : Question) (tn : ℕ) → tn < 2 ^ 8 → question_refusal q ≡ None
    → question_at (question_frame q tn) ≡ Some (heard q tn)
unfolding question_at
question_reads_back q tn small fine =
    ap question_in (opened_packet (header_of q tn) (question_payload q) (fields_fit q tn small)) ∙ ap (λ a. Some (record { destination = destination_number (destination_of q); source = 0x7FF000000000; transaction = tn; asked = a })) (asked_back q fine)

-- What is left of a question in a buffer reads back as itself.
pub question_written : (q : Question) (tn : ℕ) → tn < 2 ^ 8 → (buf after : List ℕ) (r : Result ℕ Refusal)
    → r ≡ answered (question_refusal q) (question_frame q tn) buf
    → after ≡ left_in (question_refusal q) (question_frame q tn) buf
    → IfOk r (λ n. question_at (take n after) ≡ Some (heard q tn))
question_written q tn small buf after r answer left =
    written_result (question_refusal q) (question_frame q tn) buf r after
    (λ bytes. question_at bytes ≡ Some (heard q tn))
    answer
    left
    (question_reads_back q tn small)
