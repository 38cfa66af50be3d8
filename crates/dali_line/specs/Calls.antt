-- What each function of the line leaves of its table and of the bus.
use Rattle.std.specs.Prelude.{◌≡◌, Bool, true, false, cond, List, map}
use Rattle.std.specs.List.{list_any}
use Rattle.keys.specs.Address.{in_family}
use Rattle.keys.specs.RandomAddress.{random_number}
use Rattle.keys.specs.declared.address.Address.{Address}
use Rattle.keys.specs.declared.random_address.RandomAddress.{RandomAddress}
use Rattle.keys.specs.declared.range.Range.{Range}
use Rattle.dali.specs.declared.frame.Frame.TheVariants.{Terminate, Initialise, Compare, QueryShortAddress}
use Rattle.dali.specs.declared.short_address.ShortAddress.{ShortAddress}
use Rattle.lines.specs.declared.answers.ProbeAnswer.{ProbeAnswer}
use Rattle.lines.specs.declared.answers.ProbeAnswer.TheVariants.{Silent, Garbled}
use Rattle.units.specs.Unit.{with_state}
use Rattle.units.specs.declared.bus.Bus.{Bus}
use Rattle.units.specs.declared.state.State.TheVariants.{Disabled, Enabled}
use Rattle.units.specs.declared.unit.Unit.{Unit}
use Rattle.dali_line.specs.Controller.{Becomes, said, said_to, compares_up_to, withdrawn_at, addressed_at}
use Rattle.dali_line.specs.Meaning.{fitted_units}
use Rattle.dali_line.specs.declared.line.DaliLine.{DaliLine}

-- The line afterwards: every unit of its table, whether it is live, and its bus.
pub record Left (after : DaliLine) (units : List Unit) (live : Bool) (bus : Bus) : Type 0 where
  pub wire_then : Becomes after.wire units bus
  pub live_then : after.live ≡ live

-- The table with every unit changed: no unit comes or goes.
abbrev pub changed : (Unit → Unit) → DaliLine → List Unit
changed f line = map f (fitted_units line)

-- rouse enables every unit.
abbrev pub LeftByRouse : DaliLine → DaliLine → Type 0
LeftByRouse before after = Left after (changed (with_state Enabled) before) true (said before.wire.bus Initialise)

-- rest disables every unit.
abbrev pub LeftByRest : DaliLine → DaliLine → Type 0
LeftByRest before after = Left after (changed (with_state Disabled) before) false (said before.wire.bus Terminate)

-- probe changes no unit. It is garbled exactly if an enabled unit is at or below the upper end.
abbrev pub LeftByProbe : Range RandomAddress → DaliLine → DaliLine → Type 0
LeftByProbe range before after = Left after (fitted_units before) before.live (said_to (random_number range.hi) Compare)

abbrev pub probe_answer : DaliLine → Range RandomAddress → ProbeAnswer RandomAddress
probe_answer line range = cond (list_any (compares_up_to (random_number range.hi)) (fitted_units line)) Garbled Silent

-- hush withdraws the enabled unit of the key.
abbrev pub LeftByHush : RandomAddress → DaliLine → DaliLine → Type 0
LeftByHush key before after =
    Left after (changed (withdrawn_at (random_number key)) before) before.live (said_to (random_number key) QueryShortAddress)

-- query changes no unit.
abbrev pub LeftByQuery : RandomAddress → DaliLine → DaliLine → Type 0
LeftByQuery key before after = Left after (fitted_units before) before.live (said_to (random_number key) QueryShortAddress)

-- set gives the unit of the key an address, unless it is disabled. An address outside the family is not sent.
pub record LeftBySet (key : RandomAddress) (address : Address) (before after : DaliLine) : Type 0 where
  pub sent : (a : ShortAddress) → a.value ≡ address.slot
      → Left after (changed (addressed_at (random_number key) a) before) before.live (said_to (random_number key) QueryShortAddress)
  pub not_sent : in_family 0 64 address ≡ false → after ≡ before
