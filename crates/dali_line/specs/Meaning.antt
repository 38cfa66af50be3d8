-- What the line means, read off its table.
use Rattle.std.specs.Prelude.{List, Option}
use Rattle.std.specs.Option.{option_map}
use Rattle.keys.specs.declared.address.Address.{Address}
use Rattle.keys.specs.declared.random_address.RandomAddress.{RandomAddress}
use Rattle.dali.specs.declared.short_address.ShortAddress.{ShortAddress}
use Rattle.lines.specs.Meaning.{Fitted, Meaning}
use Rattle.lines.specs.declared.answers.Footprint.{Footprint}
use Rattle.units.specs.State.{is_enabled}
use Rattle.units.specs.declared.unit.Unit.{Unit}
use Rattle.dali_line.specs.Table.{unit_at}
use Rattle.dali_line.specs.declared.line.DaliLine.{DaliLine}

abbrev pub slot_of : ShortAddress → Address
slot_of a = record { slot = a.value }

-- A unit as a fixture: it is awake exactly if it is enabled, and takes one address.
abbrev pub fixture_of : Unit → Fitted
fixture_of u = record { awake = is_enabled u.state; width = 1; address = option_map slot_of u.address }

-- What such a unit tells of itself.
abbrev pub footprint_at : Option ShortAddress → Footprint
footprint_at address = record { width = 1; address = option_map slot_of address }

abbrev pub fitted_units : DaliLine → List Unit
fitted_units line = line.wire.units.items

abbrev pub line_meaning : DaliLine → Meaning RandomAddress
line_meaning line = record { live = line.live; at = λ k. option_map fixture_of (unit_at (fitted_units line) k) }
