-- Frames in a buffer that has room for each of them.
use Rattle.std.proofs.Common.{◌≡◌, ℕ, ◌≤◌, min, Bool, true, false, cond, ltb, List, ◌++◌, length, take, drop, IfOk, Some, None, Ok, Err, Option, Result, refl, ap, ◌∙◌, append_assoc, arith}
use Rattle.std.proofs.lemmas.List.{take_at}
use Rattle.std.proofs.lemmas.Bool.Decides.{nat_tests}
use Rattle.octets.specs.Buffer.{begun}
use Rattle.refusals.specs.declared.Refusal.{Refusal}
use Rattle.refusals.specs.declared.Refusal.TheVariants.{BufferTooShort}
use Rattle.octets.specs.Writers.{answered, left_in}
use Rattle.rdm.specs.Question.{ends_bytes}
use Rattle.branch.proofs.BranchReplies.{length-reply}
use Rattle.packets.proofs.Packets.{length-packet}
use Rattle.requests.specs.Room.{answered_in}
use Rattle.outgoing.specs.Outgoing.{outgoing_frame}
use Rattle.outgoing.specs.declared.Outgoing.{Outgoing}
use Rattle.outgoing.specs.declared.Outgoing.TheVariants.{Branch, Mute, UnMute, DeviceInfo, StartAddress, BranchReply, Search, Program}

-- No frame is longer than 64 bytes.
pub frame_short : (s : Outgoing) → length (outgoing_frame s) ≤ 64
unfolding ends_bytes
frame_short (Branch tn lo hi) = simp length-packet (omega arith)
frame_short (Mute tn to) = simp length-packet (omega arith)
frame_short (UnMute tn to) = simp length-packet (omega arith)
frame_short (DeviceInfo tn key) = simp length-packet (omega arith)
frame_short (StartAddress tn key slot) = simp length-packet (omega arith)
frame_short (BranchReply key) = omega (arith, length-reply key)
frame_short (Search key) = omega arith
frame_short (Program slot) = omega arith

-- So 64 bytes serve as well as more.
pub same_room : (refusal : Option Refusal) (frame buf : List ℕ) (room : ℕ) → length frame ≤ 64 → length buf ≡ min room 64
    → answered refusal frame buf ≡ answered_in refusal frame room
same_room (Some refusal) frame buf room short size = refl
same_room None frame buf room short size = grind (arith, nat_tests)

-- What was written into a part of a buffer is at its beginning.
module _ (frame part rest : List ℕ) (short : length frame ≤ 64) where
  at_beginning : (refusal : Option Refusal) → IfOk (answered refusal frame part) (λ n. (n ≤ 64) × (take n (left_in refusal frame part ++ rest) ≡ frame))
  at_beginning (Some refusal) = tt
  at_beginning None = by_room (ltb (length part) (length frame))
    where
      by_room : (full : Bool)
          → IfOk (cond full (Err BufferTooShort) (Ok (length frame)))
          (λ n. (n ≤ 64) × (take n (cond full part (begun part frame) ++ rest) ≡ frame))
      by_room true = tt
      by_room false =
          let behind = drop (length frame) part in
          (short, ap (take (length frame)) (append_assoc frame behind rest) ∙ take_at frame (behind ++ rest) (length frame) refl)

  pub frame_read : (refusal : Option Refusal) (r : Result ℕ Refusal) (after : List ℕ)
      → r ≡ answered refusal frame part
      → after ≡ left_in refusal frame part ++ rest
      → IfOk r (λ n. (n ≤ 64) × (take n after ≡ frame))
  frame_read refusal r after answer left = rw (answer, left) (at_beginning refusal)
