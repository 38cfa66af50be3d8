-- Which units take part in a search.
use Rattle.std.specs.Prelude.{Bool, true, false}
use Rattle.units.specs.declared.state.State.{State}
use Rattle.units.specs.declared.state.State.TheVariants.{Disabled, Enabled, Withdrawn}

abbrev pub is_enabled : State → Bool
is_enabled Disabled = false
is_enabled Enabled = true
is_enabled Withdrawn = false

abbrev pub is_disabled : State → Bool
is_disabled Disabled = true
is_disabled Enabled = false
is_disabled Withdrawn = false
