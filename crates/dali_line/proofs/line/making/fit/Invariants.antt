use Rattle.std.proofs.Common.{◌≡◌, ◌++◌, map, drop}
use Rattle.std.specs.List.{list_all}
use Rattle.keys.specs.KeyNumbers.{is_random_number}
use Rattle.dali_line.specs.Making.{as_made}
use Rattle.dali_line.specs.Table.{unit_number}
use Rattle.dali_line.proofs.line.making.fit.Given as goal

-- The numbers so far have their units, and those that are left decide whether all have one.
abbrev pub invariant-loop-number : goal.invariant-loop-number
invariant-loop-number l =
    (map unit_number l.units.items ++ drop l.number-index l.numbers ≡ l.numbers)
    × (map as_made l.units.items ≡ l.units.items)
    × (list_all is_random_number (drop l.number-index l.numbers) ≡ list_all is_random_number l.numbers)
