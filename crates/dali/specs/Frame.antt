-- The bytes of each DALI frame.
use Rattle.std.specs.Prelude.{◌≡◌, ℕ, Bool, true, false, List, [], ◌∷◌, Some, None, Option}
use Rattle.dali.specs.ShortAddress.{short_byte}
use Rattle.dali.specs.declared.frame.Frame.{Frame}
use Rattle.dali.specs.declared.frame.Frame.TheVariants.{Terminate, Initialise, Compare, Withdraw, QueryShortAddress, SearchHigh, SearchMiddle, SearchLow, Program, Delete, Other}

abbrev pub frame_bytes : Frame → List ℕ
frame_bytes Terminate = 0xA1 ∷ 0x00 ∷ []
frame_bytes Initialise = 0xA5 ∷ 0x00 ∷ []
frame_bytes Compare = 0xA9 ∷ 0x00 ∷ []
frame_bytes Withdraw = 0xAB ∷ 0x00 ∷ []
frame_bytes QueryShortAddress = 0xBB ∷ 0x00 ∷ []
frame_bytes (SearchHigh b) = 0xB1 ∷ b ∷ []
frame_bytes (SearchMiddle b) = 0xB3 ∷ b ∷ []
frame_bytes (SearchLow b) = 0xB5 ∷ b ∷ []
frame_bytes (Program a) = 0xB7 ∷ short_byte a ∷ []
frame_bytes Delete = 0xB7 ∷ 0xFF ∷ []
frame_bytes (Other f) = f.first ∷ f.second ∷ []

-- r is the frame that has these bytes, found exactly if there is one with a name.
abbrev pub Found : Bool → List ℕ → Option Frame → Type 0
Found is-named bytes None = is-named ≡ false
Found is-named bytes (Some f) = (is-named ≡ true) × (frame_bytes f ≡ bytes)
