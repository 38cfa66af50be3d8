-- A frame is the one that is read from its bytes.
use Rattle.std.proofs.Common.{◌≡◌, ℕ, List, [], ◌∷◌, get_or, sym, refl, ap, ◌∙◌}
use Rattle.dali.proofs.Frames.{same_frame}
use Rattle.dali.specs.Frame.{frame_bytes}
use Rattle.dali.specs.declared.frame.Frame.{Frame}
use Rattle.dali.specs.declared.frame.Frame.TheVariants.{Terminate, Initialise, Compare, Withdraw, QueryShortAddress, SearchHigh, SearchMiddle, SearchLow, Program, Delete, Other}

-- The first two of a list of bytes.
abbrev first_two : List ℕ → List ℕ
first_two bytes = get_or bytes 0 0 ∷ get_or bytes 1 0 ∷ []

two_bytes : (frame : Frame) → first_two (frame_bytes frame) ≡ frame_bytes frame
two_bytes Terminate = refl
two_bytes Initialise = refl
two_bytes Compare = refl
two_bytes Withdraw = refl
two_bytes QueryShortAddress = refl
two_bytes (SearchHigh b) = refl
two_bytes (SearchMiddle b) = refl
two_bytes (SearchLow b) = refl
two_bytes (Program a) = refl
two_bytes Delete = refl
two_bytes (Other f) = refl

pub is_read : (frame read : Frame) (bytes : List ℕ) → frame_bytes frame ≡ bytes → frame_bytes read ≡ first_two bytes → read ≡ frame
is_read frame read bytes same is = same_frame read frame (is ∙ ap first_two (sym same) ∙ two_bytes frame)
