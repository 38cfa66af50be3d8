-- How a line is made: its units, once they are fitted.
use Rattle.std.proofs.Common.{◌≡◌, ℕ, ◌≤◌, Bool, true, false, cond, ◌||◌, eqb, ltb, List, [], ◌∷◌, map, length, is_some, Some, None, Option, sym, refl, ap, subst, ◌∙◌, arith}
use Rattle.std.proofs.lemmas.List.{length-map}
use Rattle.std.proofs.lemmas.Bool.{or_parts, lt-ltb, le-ltb, ltb-false}
use Rattle.std.proofs.lemmas.Bool.Decides.{nat_tests}
use Rattle.std.specs.Option.{option_map}
use Rattle.arrayvec.specs.ArrayVec.{ArrayVec}
use Rattle.refusals.specs.declared.Refusal.TheVariants.{Malformed, AboveLimit, KeyTwice}
use Rattle.keys.specs.KeyNumbers.{is_random_number}
use Rattle.keys.specs.RandomAddress.{random_number, RandomNumbered}
use Rattle.keys.specs.declared.random_address.RandomAddress.{RandomAddress}
use Rattle.lines.specs.Twice.{is_among, has_twice}
use Rattle.units.specs.declared.unit.Unit.{Unit}
use Rattle.dali_line.specs.Making.{above_limit, making_refusal, as_made, FittedInto, Fitted, fresh_meaning}
use Rattle.dali_line.specs.Meaning.{fixture_of}
use Rattle.dali_line.specs.Table.{unit_number, all_fit, unit_at}

-- A number that has a key is one of a key.
pub numbered_is : (n : ℕ) (key : Option RandomAddress) → RandomNumbered n key → is_random_number n ≡ is_some key
numbered_is n None e = le-ltb n _ e
numbered_is n (Some key) e = lt-ltb n _ (omega arith)

-- Units that were fitted are those of the numbers.
pub fitted_from : (numbers : List ℕ) (units : ArrayVec Unit) (r : Option (ArrayVec Unit)) → Fitted numbers r → r ≡ Some units → FittedInto numbers units.items
fitted_from numbers units r fitted is = let here : Fitted numbers (Some units) = subst (Fitted numbers) is fitted in here.1

module _ (numbers : List ℕ) (units : List Unit) (fitted : FittedInto numbers units) where
  pub fitted_distinct : has_twice numbers ≡ false → has_twice (map unit_number units) ≡ false
  fitted_distinct e = ap has_twice fitted.keys_in_order ∙ e

  all_shut : (us : List Unit) → all_fit false (map as_made us) ≡ true
  all_shut [] = refl
  all_shut (u ∷ us) = all_shut us

  -- They are as many as the keys.
  pub fitted_length : length units ≡ length numbers
  fitted_length = sym (length-map units unit_number) ∙ ap length fitted.keys_in_order

  pub fitted_shut : all_fit false units ≡ true
  fitted_shut = ap (all_fit false) (sym fitted.fresh) ∙ all_shut units

  -- What is fitted at a key.
  fitted_at : (k : RandomAddress) (us : List Unit) → option_map fixture_of (unit_at (map as_made us) k) ≡ (fresh_meaning (map unit_number us)).at k
  fitted_at k [] = refl
  fitted_at k (u ∷ us) =
      let rest = fitted_at k us in
      let turned : eqb (unit_number u) (random_number k) ≡ eqb (random_number k) (unit_number u) = grind (arith, nat_tests) in
      ap (λ t. option_map fixture_of (cond t (Some (as_made u)) (unit_at (map as_made us) k))) turned
      ∙ elim (eqb (random_number k) (unit_number u)) as
      (λ t. option_map fixture_of (cond t (Some (as_made u)) (unit_at (map as_made us) k))
      ≡ cond (t || is_among (random_number k) (map unit_number us)) (Some (fixture_of (as_made u))) None)
      [ true ↦ refl | false ↦ rest ]

  pub fitted_means : (k : RandomAddress) → option_map fixture_of (unit_at units k) ≡ (fresh_meaning numbers).at k
  fitted_means k =
      ap (λ us. option_map fixture_of (unit_at us k)) (sym fitted.fresh)
      ∙ fitted_at k units
      ∙ ap (λ ns. (fresh_meaning ns).at k) fitted.keys_in_order

-- Lists that earn no refusal.
module _ (numbers widths : List ℕ) (mode : ℕ) (none : making_refusal numbers widths mode ≡ None) where
  earns_none : (equal above twice : Bool) → cond equal (cond above (Some AboveLimit) (cond twice (Some KeyTwice) None)) (Some Malformed) ≡ None → (above ≡ false) × (twice ≡ false)
  earns_none true false false e = (refl, refl)
  earns_none true false true e = absurd (let z : ◌≡◌ {A = ℕ} 0 1 = cc in omega arith)
  earns_none true true twice e = absurd (let z : ◌≡◌ {A = ℕ} 0 1 = cc in omega arith)
  earns_none false above twice e = absurd (let z : ◌≡◌ {A = ℕ} 0 1 = cc in omega arith)

  pub no_key_twice_lem : has_twice numbers ≡ false
  no_key_twice_lem = (earns_none (eqb (length numbers) (length widths)) (above_limit numbers widths mode) (has_twice numbers) none).1

  pub not_too_many : length numbers ≤ 64
  not_too_many =
      let below = (earns_none (eqb (length numbers) (length widths)) (above_limit numbers widths mode) (has_twice numbers) none).0 in
      ltb-false 64 (length numbers) (or_parts (ltb 64 (length numbers)) _ below).0
