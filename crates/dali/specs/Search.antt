-- The frames that set the search address.
use Rattle.std.specs.Prelude.{ℕ, ◌/◌, ◌%◌, ◌^◌, List, [], ◌∷◌}
use Rattle.std.specs.List.{flat_map}
use Rattle.dali.specs.Frame.{frame_bytes}
use Rattle.dali.specs.declared.frame.Frame.{Frame}
use Rattle.dali.specs.declared.frame.Frame.TheVariants.{SearchHigh, SearchMiddle, SearchLow}

-- High byte first.
abbrev pub search_frames : ℕ → List Frame
search_frames n = SearchHigh (n / 2 ^ 16 % 256) ∷ SearchMiddle (n / 2 ^ 8 % 256) ∷ SearchLow (n % 256) ∷ []

abbrev pub search_bytes : ℕ → List ℕ
search_bytes n = flat_map frame_bytes (search_frames n)
