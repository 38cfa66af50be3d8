-- The units of a line.
use Rattle.std.specs.Prelude.{ℕ, Bool, cond, not, List, ◌++◌, map, take, drop, Option, ◌==◌}
use Rattle.std.specs.List.{list_all, find}
use Rattle.keys.specs.RandomAddress.{random_number}
use Rattle.keys.specs.declared.random_address.RandomAddress.{RandomAddress}
use Rattle.units.specs.State.{is_disabled}
use Rattle.units.specs.declared.unit.Unit.{Unit}

-- The number of a unit's key.
abbrev pub unit_number : Unit → ℕ
unit_number u = random_number u.key

-- While a line is shut every unit is disabled, while it is live none is.
abbrev pub fits : Bool → Unit → Bool
fits live u = cond live (not (is_disabled u.state)) (is_disabled u.state)

abbrev pub all_fit : Bool → List Unit → Bool
all_fit live us = list_all (fits live) us

-- The unit that has a key.
abbrev pub unit_at : List Unit → RandomAddress → Option Unit
unit_at us k = find (λ u. unit_number u == random_number k) us

-- A table with its first units changed, and all others as they were.
abbrev pub changed_first : (Unit → Unit) → ℕ → List Unit → List Unit
changed_first f n units = map f (take n units) ++ drop n units
