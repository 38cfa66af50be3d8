-- What hush and set make of a unit, and of the fixture that it is.
use Rattle.std.specs.Prelude.{◌≡◌, ℕ, Bool, true, false, cond, not, ◌&&◌, Some, Option, ◌==◌, refl}
use Rattle.std.proofs.Common.{sym, ap, ◌∙◌}
use Rattle.std.proofs.lemmas.Bool.{both_ways}
use Rattle.keys.specs.RandomAddress.{random_number}
use Rattle.keys.specs.declared.address.Address.{Address}
use Rattle.keys.specs.declared.random_address.RandomAddress.{RandomAddress}
use Rattle.dali.specs.declared.short_address.ShortAddress.{ShortAddress}
use Rattle.lines.specs.Meaning.{Fitted}
use Rattle.lines.specs.Rules.{with_awake, with_address as with_slot}
use Rattle.units.specs.State.{is_disabled, is_enabled}
use Rattle.units.specs.Unit.{with_state, with_address}
use Rattle.units.specs.declared.state.State.{State}
use Rattle.units.specs.declared.state.State.TheVariants.{Disabled, Enabled, Withdrawn}
use Rattle.units.specs.declared.unit.Unit.{Unit}
use Rattle.dali_line.specs.Controller.{selected_at, withdrawn_at, addressed_at}
use Rattle.dali_line.specs.Meaning.{fixture_of, slot_of}
use Rattle.dali_line.specs.Table.{unit_number, fits}

-- What holds of a unit by its state.
by_state : (P : Unit → Type 0) → ((k : RandomAddress) (a : Option ShortAddress) (s : State) → P (record { key = k; address = a; state = s })) → (u : Unit) → P u
by_state P each u = each u.key u.address u.state

-- The enabled unit of a number is withdrawn.
module _ (n : ℕ) where
  pub withdrawn_shut : (u : Unit) → is_disabled u.state ≡ true → withdrawn_at n u ≡ u
  withdrawn_shut = by_state (λ u. is_disabled u.state ≡ true → withdrawn_at n u ≡ u) each
    where
      each : (k : RandomAddress) (a : Option ShortAddress) (s : State) → let u : Unit = record { key = k; address = a; state = s } in is_disabled s ≡ true → withdrawn_at n u ≡ u
      each k a Disabled e = refl
      each k a Enabled e = absurd (both_ways _ refl e)
      each k a Withdrawn e = refl

  pub withdrawn_open : (u : Unit) → fixture_of (withdrawn_at n u) ≡ cond (unit_number u == n) (with_awake false (fixture_of u)) (fixture_of u)
  withdrawn_open = by_state (λ u. fixture_of (withdrawn_at n u) ≡ cond (unit_number u == n) (with_awake false (fixture_of u)) (fixture_of u)) each
    where
      enabled : (u : Unit) (t : Bool) → fixture_of (cond t (with_state Withdrawn u) u) ≡ cond t (with_awake false (fixture_of u)) (fixture_of u)
      enabled u true = refl
      enabled u false = refl

      asleep : (x : Fitted) (t : Bool) → x.awake ≡ false → x ≡ cond t (with_awake false x) x
      asleep x true e = λ i. record { awake = e i; width = x.width; address = x.address }
      asleep x false e = refl

      each : (k : RandomAddress) (a : Option ShortAddress) (s : State) → let u : Unit = record { key = k; address = a; state = s } in
          fixture_of (withdrawn_at n u) ≡ cond (unit_number u == n) (with_awake false (fixture_of u)) (fixture_of u)
      each k a Disabled = asleep _ (random_number k == n) refl
      each k a Enabled = enabled (record { key = k; address = a; state = Enabled }) (random_number k == n)
      each k a Withdrawn = asleep _ (random_number k == n) refl

  pub withdrawn_keeps : (u : Unit) → (withdrawn_at n u).key ≡ u.key
  withdrawn_keeps u = elim (is_enabled u.state && unit_number u == n) as (λ t. (cond t (with_state Withdrawn u) u).key ≡ u.key) [ true ↦ refl | false ↦ refl ]

  pub withdrawn_fits : (live : Bool) (u : Unit) → fits live (withdrawn_at n u) ≡ fits live u
  withdrawn_fits live = by_state (λ u. fits live (withdrawn_at n u) ≡ fits live u) each
    where
      enabled : (u : Unit) (t : Bool) → is_disabled u.state ≡ false → fits live (cond t (with_state Withdrawn u) u) ≡ fits live u
      enabled u true e = ap (λ d. cond live (not d) d) (sym e)
      enabled u false e = refl

      each : (k : RandomAddress) (a : Option ShortAddress) (s : State) → let u : Unit = record { key = k; address = a; state = s } in fits live (withdrawn_at n u) ≡ fits live u
      each k a Disabled = refl
      each k a Enabled = enabled (record { key = k; address = a; state = Enabled }) (random_number k == n) refl
      each k a Withdrawn = refl

-- The unit of a number has an address.
module _ (n : ℕ) (a : ShortAddress) where
  pub addressed_shut : (u : Unit) → is_disabled u.state ≡ true → addressed_at n a u ≡ u
  addressed_shut u e = ap (λ d. cond (not d && unit_number u == n) (with_address (Some a) u) u) e

  pub addressed_open : (address : Address) → slot_of a ≡ address → (u : Unit) → is_disabled u.state ≡ false
      → fixture_of (addressed_at n a u) ≡ cond (unit_number u == n) (with_slot address (fixture_of u)) (fixture_of u)
  addressed_open address is u e =
      ap (λ d. fixture_of (cond (not d && unit_number u == n) (with_address (Some a) u) u)) e
      ∙ elim (unit_number u == n) as
      (λ t. fixture_of (cond t (with_address (Some a) u) u) ≡ cond t (with_slot address (fixture_of u)) (fixture_of u))
      [ true ↦ ap (λ slot. with_slot slot (fixture_of u)) is | false ↦ refl ]

  pub addressed_keeps : (u : Unit) → (addressed_at n a u).key ≡ u.key
  addressed_keeps u = elim (selected_at n u) as (λ t. (cond t (with_address (Some a) u) u).key ≡ u.key) [ true ↦ refl | false ↦ refl ]

  pub addressed_fits : (live : Bool) (u : Unit) → fits live (addressed_at n a u) ≡ fits live u
  addressed_fits live u = elim (selected_at n u) as (λ t. fits live (cond t (with_address (Some a) u) u) ≡ fits live u) [ true ↦ refl | false ↦ refl ]
