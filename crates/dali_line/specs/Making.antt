-- How a line is made.
use Rattle.std.specs.Prelude.{◌≡◌, ℕ, Bool, true, false, cond, not, ◌||◌, List, map, length, Some, None, Ok, Err, Option, Result, ◌==◌, nat_lt}
use Rattle.std.specs.List.{list_all}
use Rattle.arrayvec.specs.ArrayVec.{ArrayVec}
use Rattle.refusals.specs.declared.Refusal.{Refusal}
use Rattle.refusals.specs.declared.Refusal.TheVariants.{Malformed, AboveLimit, KeyTwice}
use Rattle.keys.specs.KeyNumbers.{is_random_number}
use Rattle.keys.specs.RandomAddress.{random_number}
use Rattle.keys.specs.declared.random_address.RandomAddress.{RandomAddress}
use Rattle.lines.specs.Meaning.{Meaning}
use Rattle.lines.specs.Twice.{is_among, has_twice}
use Rattle.units.specs.Bus.{fresh_bus}
use Rattle.units.specs.Unit.{fresh_unit}
use Rattle.units.specs.declared.unit.Unit.{Unit}
use Rattle.dali_line.specs.Meaning.{fitted_units}
use Rattle.dali_line.specs.Table.{unit_number}
use Rattle.dali_line.specs.declared.line.DaliLine.{DaliLine}

-- A unit takes exactly one address.
abbrev pub is_one : ℕ → Bool
is_one width = width == 1

-- More than 64 units, a mode above 0, a width other than 1, or a number that is no key.
abbrev pub above_limit : List ℕ → List ℕ → ℕ → Bool
above_limit numbers widths mode =
    nat_lt 64 (length numbers) || (nat_lt 0 mode || (not (list_all is_one widths) || not (list_all is_random_number numbers)))

-- The refusal that the lists and the mode earn: first unequal lists, then a limit, then a key twice.
abbrev pub making_refusal : List ℕ → List ℕ → ℕ → Option Refusal
making_refusal numbers widths mode =
    cond (length numbers == length widths)
    (cond (above_limit numbers widths mode) (Some AboveLimit) (cond (has_twice numbers) (Some KeyTwice) None))
    (Some Malformed)

-- A unit of the same key as it is made.
abbrev pub as_made : Unit → Unit
as_made u = fresh_unit u.key

-- Fresh units whose keys have these numbers, in their order.
pub record FittedInto (numbers : List ℕ) (units : List Unit) : Type 0 where
  pub keys_in_order : map unit_number units ≡ numbers
  pub fresh : map as_made units ≡ units

-- r is a table of such units, if each of the numbers is one of a key.
abbrev pub Fitted : List ℕ → Option (ArrayVec Unit) → Type 0
Fitted numbers None = list_all is_random_number numbers ≡ false
Fitted numbers (Some units) = (list_all is_random_number numbers ≡ true) × FittedInto numbers units.items

-- A line as it is made: shut, with fresh units and a fresh bus.
pub record Fresh (numbers : List ℕ) (line : DaliLine) : Type 0 where
  pub units_fresh : FittedInto numbers (fitted_units line)
  pub bus_fresh : line.wire.bus ≡ fresh_bus
  pub shut : line.live ≡ false

-- What such a line means: it is shut, and each of the keys is fitted, asleep and without an address.
abbrev pub fresh_meaning : List ℕ → Meaning RandomAddress
fresh_meaning numbers = record {
  live = false;
  at = λ k. cond (is_among (random_number k) numbers) (Some (record { awake = false; width = 1; address = None })) None;
}

abbrev pub Made : List ℕ → List ℕ → ℕ → Result DaliLine Refusal → Type 0
Made numbers widths mode (Err refusal) = making_refusal numbers widths mode ≡ Some refusal
Made numbers widths mode (Ok line) = (making_refusal numbers widths mode ≡ None) × Fresh numbers line
