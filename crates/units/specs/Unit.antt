-- What a unit does on a frame: what becomes of it, and its reply.
use Rattle.std.specs.Prelude.{ℕ, Bool, cond, not, ◌&&◌, Some, None, Option, ◌==◌, nat_le}
use Rattle.keys.specs.RandomAddress.{random_number}
use Rattle.keys.specs.declared.random_address.RandomAddress.{RandomAddress}
use Rattle.dali.specs.ShortAddress.{stored_byte}
use Rattle.dali.specs.declared.frame.Frame.{Frame}
use Rattle.dali.specs.declared.frame.Frame.TheVariants.{Terminate, Initialise, Compare, Withdraw, QueryShortAddress, SearchHigh, SearchMiddle, SearchLow, Program, Delete, Other}
use Rattle.dali.specs.declared.short_address.ShortAddress.{ShortAddress}
use Rattle.units.specs.Bus.{was_initialise}
use Rattle.units.specs.SearchAddress.{search_number}
use Rattle.units.specs.State.{is_enabled, is_disabled}
use Rattle.units.specs.declared.bus.Bus.{Bus}
use Rattle.units.specs.declared.state.State.{State}
use Rattle.units.specs.declared.state.State.TheVariants.{Disabled, Enabled, Withdrawn}
use Rattle.units.specs.declared.unit.Unit.{Unit}

abbrev pub fresh_unit : RandomAddress → Unit
fresh_unit key = record { key = key; address = None; state = Disabled }

abbrev pub with_state : State → Unit → Unit
with_state state u = record { key = u.key; address = u.address; state = state }

abbrev pub with_address : Option ShortAddress → Unit → Unit
with_address address u = record { key = u.key; address = address; state = u.state }

-- The unit whose key is the search address.
abbrev pub is_sought : Bus → Unit → Bool
is_sought bus u = random_number u.key == search_number bus.search

-- The unit at the search address, unless it is disabled.
abbrev pub is_selected : Bus → Unit → Bool
is_selected bus u = not (is_disabled u.state) && is_sought bus u

-- A100 disables every unit, A500 behind another A500 enables every unit, AB00 withdraws the enabled unit at the search
-- address; B7 gives the selected unit an address, or takes it away. Nothing else changes a unit.
abbrev pub unit_after : Bus → Frame → Unit → Unit
unit_after bus Terminate u = with_state Disabled u
unit_after bus Initialise u = cond (was_initialise bus.before) (with_state Enabled u) u
unit_after bus Withdraw u = cond (is_enabled u.state && is_sought bus u) (with_state Withdrawn u) u
unit_after bus (Program a) u = cond (is_selected bus u) (with_address (Some a) u) u
unit_after bus Delete u = cond (is_selected bus u) (with_address None u) u
unit_after bus Compare u = u
unit_after bus QueryShortAddress u = u
unit_after bus (SearchHigh b) u = u
unit_after bus (SearchMiddle b) u = u
unit_after bus (SearchLow b) u = u
unit_after bus (Other f) u = u

-- A900 is replied to by every enabled unit at or below the search address, BB00 by the selected unit, with its address.
abbrev pub unit_reply : Bus → Frame → Unit → Option ℕ
unit_reply bus Compare u = cond (is_enabled u.state && nat_le (random_number u.key) (search_number bus.search)) (Some 0xFF) None
unit_reply bus QueryShortAddress u = cond (is_selected bus u) (Some (stored_byte u.address)) None
unit_reply bus Terminate u = None
unit_reply bus Initialise u = None
unit_reply bus Withdraw u = None
unit_reply bus (SearchHigh b) u = None
unit_reply bus (SearchMiddle b) u = None
unit_reply bus (SearchLow b) u = None
unit_reply bus (Program a) u = None
unit_reply bus Delete u = None
unit_reply bus (Other f) u = None
