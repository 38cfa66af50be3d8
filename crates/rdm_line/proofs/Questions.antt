-- Questions that are written and sent, or refused.
use Rattle.std.proofs.Common.{◌≡◌, ℕ, ◌-◌, ◌≤◌, List, map, length, take, Some, None, sym, ap, ◌∙◌, arith}
use native.Mathlib.Nat.{sub-zero}
use Rattle.packets.proofs.Packets.{length-packet}
use Rattle.fixtures.specs.declared.fixture.Fixture.{Fixture}
use Rattle.refusals.specs.declared.Refusal.{Refusal}
use Rattle.rdm.specs.Question.{ends_bytes, header_of, question_payload, question_refusal}
use Rattle.rdm.specs.declared.question.Question.{Question}
use Rattle.rdm.specs.declared.question.Question.TheVariants.{Branch, Mute, UnMute, DeviceInfo, StartAddress}
use Rattle.rdm_line.specs.Asking.{frame_of, asked, replies}
use Rattle.rdm_line.specs.Cable.{Signal, quiet}
use Rattle.rdm_line.specs.Sending.{after, replies_to}
use Rattle.rdm_line.specs.declared.mode.Mode.{Mode}

payload_size : (q : Question) → length (question_payload q) ≤ 12
unfolding ends_bytes
payload_size (Branch r) = omega arith
payload_size (Mute d) = omega arith
payload_size (UnMute d) = omega arith
payload_size (DeviceInfo key) = omega arith
payload_size (StartAddress key a) = omega arith

-- Every question fits the buffer that lines write it into.
pub question_size : (q : Question) → length (frame_of q) ≤ 38
question_size q = omega (arith, length-packet (header_of q 0) (question_payload q), payload_size q)

module _ (q : Question) (fs : List Fixture) where
  pub refused_table : (refusal : Refusal) → question_refusal q ≡ Some refusal → fs ≡ asked q fs
  unfolding asked
  refused_table refusal refused = rw refused

  pub refused_signal : (mode : Mode) (refusal : Refusal) → question_refusal q ≡ Some refusal → quiet ≡ replies mode q fs
  unfolding replies
  refused_signal mode refusal refused = rw refused

  pub sent_table : question_refusal q ≡ None → asked q fs ≡ map (after (frame_of q)) fs
  unfolding asked
  sent_table fine = rw fine

  pub sent_signal : (mode : Mode) → question_refusal q ≡ None → replies mode q fs ≡ replies_to mode (frame_of q) fs
  unfolding replies
  sent_signal mode fine = rw fine

  -- The bytes that were sent are the first so many of a buffer.
  module _ (fine : question_refusal q ≡ None) (buf : List ℕ) (n : ℕ) (first : take n buf ≡ frame_of q) where
    bytes_sent : take (n - 0) buf ≡ frame_of q
    bytes_sent = rw sub-zero first

    pub table_from : (changed : List Fixture) → changed ≡ map (after (take (n - 0) buf)) fs → changed ≡ asked q fs
    table_from changed is = is ∙ ap (λ frame. map (after frame) fs) bytes_sent ∙ sym (sent_table fine)

    pub signal_from : (mode : Mode) (s : Signal) → s ≡ replies_to mode (take (n - 0) buf) fs → s ≡ replies mode q fs
    signal_from mode s is = is ∙ ap (λ frame. replies_to mode frame fs) bytes_sent ∙ sym (sent_signal mode fine)
