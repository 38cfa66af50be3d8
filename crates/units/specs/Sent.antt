-- A frame that is sent to units over their bus.
use Rattle.std.specs.Prelude.{◌≡◌, List, map}
use Rattle.dali.specs.declared.frame.Frame.{Frame}
use Rattle.units.specs.Bus.{bus_after}
use Rattle.units.specs.Received.{received, replies}
use Rattle.units.specs.Unit.{unit_after}
use Rattle.units.specs.declared.bus.Bus.{Bus}
use Rattle.units.specs.declared.received.Received.{Received}
use Rattle.units.specs.declared.unit.Unit.{Unit}

-- What is received, and what becomes of the units and of the bus. Every unit reacts on the bus as it was before.
pub record Sent (us : List Unit) (bus : Bus) (frame : Frame) (heard : Received) (us' : List Unit) (bus' : Bus) : Type 0 where
  pub answer : heard ≡ received (replies bus frame us)
  pub units_then : us' ≡ map (unit_after bus frame) us
  pub bus_then : bus' ≡ bus_after bus frame
