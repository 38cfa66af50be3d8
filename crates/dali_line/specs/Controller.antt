-- What a controller makes of units and their bus.
use Rattle.std.specs.Prelude.{◌≡◌, ℕ, ◌%◌, Bool, cond, not, ◌&&◌, List, [], ◌∷◌, map, Some, None, Option, ◌==◌, nat_le}
use Rattle.dali.specs.declared.frame.Frame.{Frame}
use Rattle.dali.specs.declared.frame.Frame.TheVariants.{SearchLow}
use Rattle.dali.specs.declared.short_address.ShortAddress.{ShortAddress}
use Rattle.units.specs.Bus.{bus_after}
use Rattle.units.specs.SearchAddress.{search_at}
use Rattle.units.specs.State.{is_disabled, is_enabled}
use Rattle.units.specs.Unit.{unit_after, with_state, with_address}
use Rattle.units.specs.declared.bus.Bus.{Bus}
use Rattle.units.specs.declared.state.State.TheVariants.{Withdrawn}
use Rattle.units.specs.declared.unit.Unit.{Unit}
use Rattle.dali_line.specs.Table.{unit_number}
use Rattle.dali_line.specs.declared.wire.Wire.{Wire}

-- The units on a wire are now these, and their bus is this one.
pub record Becomes (wire : Wire) (units : List Unit) (bus : Bus) : Type 0 where
  pub units_then : wire.units.items ≡ units
  pub bus_then : wire.bus ≡ bus

-- Frames sent one after the other: each finds units and bus as the one before left them.
abbrev pub units_after_all : Bus → List Frame → List Unit → List Unit
units_after_all bus [] units = units
units_after_all bus (frame ∷ frames) units = units_after_all (bus_after bus frame) frames (map (unit_after bus frame) units)

abbrev pub bus_after_all : Bus → List Frame → Bus
bus_after_all bus [] = bus
bus_after_all bus (frame ∷ frames) = bus_after_all (bus_after bus frame) frames

-- The bus after a frame that leaves the search address.
abbrev pub said : Bus → Frame → Bus
said bus frame = record { search = bus.search; before = Some frame }

-- The bus after the search address of a number and, last, a frame.
abbrev pub said_to : ℕ → Frame → Bus
said_to n frame = record { search = search_at n; before = Some frame }

-- The bus after the three frames of a search address.
abbrev pub seeking : ℕ → Bus
seeking n = said_to n (SearchLow (n % 256))

-- An enabled unit at or below a number.
abbrev pub compares_up_to : ℕ → Unit → Bool
compares_up_to n u = is_enabled u.state && nat_le (unit_number u) n

-- The unit of a number, unless it is disabled.
abbrev pub selected_at : ℕ → Unit → Bool
selected_at n u = not (is_disabled u.state) && unit_number u == n

-- The enabled unit of a number is withdrawn.
abbrev pub withdrawn_at : ℕ → Unit → Unit
withdrawn_at n u = cond (is_enabled u.state && unit_number u == n) (with_state Withdrawn u) u

-- The unit of a number, unless it is disabled, has an address.
abbrev pub addressed_at : ℕ → ShortAddress → Unit → Unit
addressed_at n a u = cond (selected_at n u) (with_address (Some a) u) u

-- What the selected units tell of their address: it can be read if there is just one of them.
abbrev pub told : List Unit → Option (Option ShortAddress)
told [] = None
told (u ∷ []) = Some u.address
told (u ∷ v ∷ more) = None
