-- What all units share, and what a frame makes of it.
use Rattle.std.specs.Prelude.{Bool, true, false, Some, None, Option}
use Rattle.dali.specs.declared.frame.Frame.{Frame}
use Rattle.dali.specs.declared.frame.Frame.TheVariants.{Terminate, Initialise, Compare, Withdraw, QueryShortAddress, SearchHigh, SearchMiddle, SearchLow, Program, Delete, Other}
use Rattle.units.specs.SearchAddress.{highest_search}
use Rattle.units.specs.declared.bus.Bus.{Bus}
use Rattle.units.specs.declared.search_address.SearchAddress.{SearchAddress}

abbrev pub fresh_bus : Bus
fresh_bus = record { search = highest_search; before = None }

-- B1, B3 and B5 set a byte of the search address; no other frame changes it.
abbrev pub search_after : SearchAddress → Frame → SearchAddress
search_after s (SearchHigh b) = record { high = b; middle = s.middle; low = s.low }
search_after s (SearchMiddle b) = record { high = s.high; middle = b; low = s.low }
search_after s (SearchLow b) = record { high = s.high; middle = s.middle; low = b }
search_after s Terminate = s
search_after s Initialise = s
search_after s Compare = s
search_after s Withdraw = s
search_after s QueryShortAddress = s
search_after s (Program a) = s
search_after s Delete = s
search_after s (Other f) = s

abbrev pub bus_after : Bus → Frame → Bus
bus_after bus frame = record { search = search_after bus.search frame; before = Some frame }

abbrev pub is_initialise : Frame → Bool
is_initialise Initialise = true
is_initialise Terminate = false
is_initialise Compare = false
is_initialise Withdraw = false
is_initialise QueryShortAddress = false
is_initialise (SearchHigh b) = false
is_initialise (SearchMiddle b) = false
is_initialise (SearchLow b) = false
is_initialise (Program a) = false
is_initialise Delete = false
is_initialise (Other f) = false

-- Whether the frame before was A500.
abbrev pub was_initialise : Option Frame → Bool
was_initialise None = false
was_initialise (Some frame) = is_initialise frame
