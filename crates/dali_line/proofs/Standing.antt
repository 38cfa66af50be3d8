-- What a line keeps while its units change: their keys are distinct, and their states fit whether it is live.
use Rattle.std.proofs.Common.{◌≡◌, ℕ, Bool, true, false, List, map, refl, ap, ◌∙◌}
use Rattle.dali.specs.declared.short_address.ShortAddress.{ShortAddress}
use Rattle.keys.specs.RandomAddress.{random_number}
use Rattle.lines.specs.Tables.{values_kept, all_kept}
use Rattle.lines.specs.Twice.{has_twice}
use Rattle.units.specs.Unit.{with_state}
use Rattle.units.specs.declared.state.State.TheVariants.{Disabled, Enabled}
use Rattle.units.specs.declared.unit.Unit.{Unit}
use Rattle.dali_line.specs.Meaning.{fitted_units}
use Rattle.dali_line.specs.Changes.{withdrawn_keeps, withdrawn_fits, addressed_keeps, addressed_fits}
use Rattle.dali_line.specs.Calls.{changed}
use Rattle.dali_line.specs.Controller.{withdrawn_at, addressed_at}
use Rattle.dali_line.specs.Meaning.{fitted_units}
use Rattle.dali_line.specs.Table.{unit_number, fits, all_fit}
use Rattle.dali_line.specs.declared.line.DaliLine.{DaliLine}

module _ (line : DaliLine) (units : List Unit) where
  -- The two facts, of another table.
  abbrev pub Stands : Bool → Type 0
  Stands live = (has_twice (map unit_number units) ≡ false) × (all_fit live units ≡ true)

  stands : (f : Unit → Unit) (live : Bool) → ((u : Unit) → (f u).key ≡ u.key)
      → ((u : Unit) → fits line.live u ≡ true → fits live (f u) ≡ true)
      → units ≡ changed f line
      → Stands live
  stands f live keeps fit e =
      let us = fitted_units line in (
        ap (λ l. has_twice (map unit_number l)) e ∙ ap has_twice (values_kept unit_number f (λ u. ap random_number (keeps u)) us) ∙ line.distinct,
        ap (all_fit live) e ∙ all_kept (fits line.live) (fits live) f fit us line.states,
      )

  pub stands_enabled : units ≡ changed (with_state Enabled) line → Stands true
  stands_enabled = stands (with_state Enabled) true (λ u. refl) (λ u _. refl)

  pub stands_disabled : units ≡ changed (with_state Disabled) line → Stands false
  stands_disabled = stands (with_state Disabled) false (λ u. refl) (λ u _. refl)

  pub stands_withdrawn : (n : ℕ) → units ≡ changed (withdrawn_at n) line → Stands line.live
  stands_withdrawn n = stands (withdrawn_at n) line.live (withdrawn_keeps n) (λ u fit. withdrawn_fits n line.live u ∙ fit)

  pub stands_addressed : (n : ℕ) (a : ShortAddress) → units ≡ changed (addressed_at n a) line → Stands line.live
  stands_addressed n a = stands (addressed_at n a) line.live (addressed_keeps n a) (λ u fit. addressed_fits n a line.live u ∙ fit)
