-- What a controller receives after a frame.
use Rattle.std.specs.Prelude.{ℕ, Bool, true, false, List, [], ◌∷◌}
use Rattle.std.specs.Option.{option_to_list}
use Rattle.std.specs.List.{flat_map}
use Rattle.dali.specs.declared.frame.Frame.{Frame}
use Rattle.units.specs.Unit.{unit_reply}
use Rattle.units.specs.declared.bus.Bus.{Bus}
use Rattle.units.specs.declared.received.Received.{Received}
use Rattle.units.specs.declared.received.Received.TheVariants.{Nothing, One, Several}
use Rattle.units.specs.declared.unit.Unit.{Unit}

-- Replies at the same time cannot be read.
abbrev pub received : List ℕ → Received
received [] = Nothing
received (byte ∷ []) = One byte
received (byte ∷ another ∷ more) = Several

abbrev pub is_nothing : Received → Bool
is_nothing Nothing = true
is_nothing (One byte) = false
is_nothing Several = false

-- The reply bytes, in the order of the units.
abbrev pub replies : Bus → Frame → List Unit → List ℕ
replies bus frame units = flat_map (λ u. option_to_list (unit_reply bus frame u)) units
