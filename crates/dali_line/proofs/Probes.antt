-- What a probe tells of the units that are awake.
use Rattle.std.proofs.Common.{◌≡◌, ℕ, ◌≤◌, Bool, true, false, cond, ◌||◌, eqb, leb, List, [], ◌∷◌, map, IfSome, Some, None, Option, sym, refl, ap, ◌∙◌, subst, arith}
use Rattle.std.proofs.lemmas.Bool.{both_ways, and_parts, and_from, or_parts, or_right, eqb-true, eq-eqb, leb-true, le-leb, cond-true}
use Rattle.std.specs.List.{list_any}
use Rattle.std.specs.Option.{option_map}
use Rattle.keys.specs.RandomAddress.{random_number, random_rank}
use Rattle.keys.specs.declared.random_address.RandomAddress.{RandomAddress}
use Rattle.keys.specs.declared.range.Range.{Range}
use Rattle.lines.specs.Meaning.{is_awake, awake_there}
use Rattle.lines.specs.Rules.{Probed}
use Rattle.lines.specs.Tables.{found_passes}
use Rattle.lines.specs.Twice.{is_among, has_twice}
use Rattle.lines.specs.declared.answers.ProbeAnswer.{ProbeAnswer}
use Rattle.lines.specs.declared.answers.ProbeAnswer.TheVariants.{Silent, Garbled}
use Rattle.units.specs.State.{is_enabled}
use Rattle.units.specs.declared.unit.Unit.{Unit}
use Rattle.dali_line.specs.Ranks.{number_le, rank_le}
use Rattle.dali_line.specs.Calls.{probe_answer}
use Rattle.dali_line.specs.Controller.{compares_up_to}
use Rattle.dali_line.specs.Meaning.{fixture_of, fitted_units, line_meaning}
use Rattle.dali_line.specs.Table.{unit_number, unit_at}
use Rattle.dali_line.specs.declared.line.DaliLine.{DaliLine}

-- A key that has a unit is among the numbers.
among : (us : List Unit) (k : RandomAddress) (u : Unit) → unit_at us k ≡ Some u → is_among (random_number k) (map unit_number us) ≡ true
among [] k u e = cc
among (v ∷ us) k u e = by (eqb (unit_number v) (random_number k)) refl e (among us k u)
  where
    by : (t : Bool) → eqb (unit_number v) (random_number k) ≡ t
        → cond t (Some v) (unit_at us k) ≡ Some u
        → (unit_at us k ≡ Some u → is_among (random_number k) (map unit_number us) ≡ true)
        → is_among (random_number k) (map unit_number (v ∷ us)) ≡ true
    by true is e rest = ap (λ t. t || is_among (random_number k) (map unit_number us)) (eq-eqb (random_number k) (unit_number v) (sym (eqb-true (unit_number v) (random_number k) is)))
    by false is e rest = or_right (eqb (random_number k) (unit_number v)) (is_among (random_number k) (map unit_number us)) (rest e)

-- A unit is still found at its key behind one whose number does not come again.
found_behind : (v u : Unit) (us : List Unit) → is_among (unit_number v) (map unit_number us) ≡ false → unit_at us u.key ≡ Some u → unit_at (v ∷ us) u.key ≡ Some u
found_behind v u us once at = by (eqb (unit_number v) (unit_number u)) refl
  where
    by : (t : Bool) → eqb (unit_number v) (unit_number u) ≡ t → cond t (Some v) (unit_at us u.key) ≡ Some u
    by true is =
        absurd
        (both_ways _ once (ap (λ n. is_among n (map unit_number us)) (eqb-true (unit_number v) (unit_number u) is) ∙ among us u.key u at))
    by false is = at

-- If one passes a test, then one that is found at its key does.
one_passes : (test : Unit → Bool) (us : List Unit) → has_twice (map unit_number us) ≡ false → list_any test us ≡ true
    → (u : Unit) × (unit_at us u.key ≡ Some u) × (test u ≡ true)
one_passes test [] distinct e = absurd (both_ways _ refl e)
one_passes test (v ∷ us) distinct e =
    let (once, apart) = or_parts (is_among (unit_number v) (map unit_number us)) (has_twice (map unit_number us)) distinct in
    by once (test v) refl e (one_passes test us apart)
  where
    by : is_among (unit_number v) (map unit_number us) ≡ false
        → (t : Bool)
        → test v ≡ t
        → (t || list_any test us) ≡ true
        → (list_any test us ≡ true → (u : Unit) × (unit_at us u.key ≡ Some u) × (test u ≡ true))
        → (u : Unit) × (unit_at (v ∷ us) u.key ≡ Some u) × (test u ≡ true)
    by once true is e rest = (v, cond-true (eqb (unit_number v) (unit_number v)) (Some v) (unit_at us v.key) (eq-eqb _ _ refl), is)
    by once false is e rest = let (u, at, passes) = rest e in (u, found_behind v u us once at, passes)

-- If the unit of a key passes a test, then one does.
passes_there : (test : Unit → Bool) (us : List Unit) (k : RandomAddress) (u : Unit) → unit_at us k ≡ Some u → test u ≡ true → list_any test us ≡ true
passes_there test [] k u at passes = cc
passes_there test (v ∷ us) k u at passes = by (eqb (unit_number v) (random_number k)) at (λ rest. passes_there test us k u rest passes)
  where
    by : (t : Bool) → cond t (Some v) (unit_at us k) ≡ Some u
        → (unit_at us k ≡ Some u → list_any test us ≡ true)
        → list_any test (v ∷ us) ≡ true
    by true e rest = let is : v ≡ u = cc in ap (λ t. t || list_any test us) (ap test is ∙ passes)
    by false e rest = or_right (test v) (list_any test us) (rest e)

module _ (line : DaliLine) (range : Range RandomAddress) where
  -- Whether a unit that compares is awake up to the upper end.
  compares : (u : Unit) → compares_up_to (random_number range.hi) u ≡ true → (is_enabled u.state ≡ true) × (random_rank u.key ≤ random_rank range.hi)
  compares u passes =
      let (enabled, within) = and_parts (is_enabled u.state) (leb (unit_number u) (random_number range.hi)) passes in
      (enabled, rank_le u.key range.hi (leb-true (unit_number u) (random_number range.hi) within))

  none_awake : ((k : RandomAddress) → random_rank k ≤ random_rank range.hi → is_awake (line_meaning line) k ≡ false) → list_any (compares_up_to (random_number range.hi)) (fitted_units line) ≡ false
  none_awake asleep = by (list_any (compares_up_to (random_number range.hi)) (fitted_units line)) refl
    where
      by : (any : Bool) → list_any (compares_up_to (random_number range.hi)) (fitted_units line) ≡ any → any ≡ false
      by false e = refl
      by true e =
          let (u, at, passes) = one_passes _ (fitted_units line) line.distinct e in
          let (enabled, within) = compares u passes in
          absurd (both_ways _ (sym (ap (λ o. awake_there (option_map fixture_of o)) at) ∙ asleep u.key within) enabled)

  one_awake : (k : RandomAddress) → random_rank k ≤ random_rank range.hi → is_awake (line_meaning line) k ≡ true → list_any (compares_up_to (random_number range.hi)) (fitted_units line) ≡ true
  one_awake k within awake = by (unit_at (fitted_units line) k) refl awake (found_passes (λ u. eqb (unit_number u) (random_number k)) (fitted_units line))
    where
      by : (o : Option Unit) → unit_at (fitted_units line) k ≡ o
          → awake_there (option_map fixture_of o) ≡ true
          → IfSome o (λ u. eqb (unit_number u) (random_number k) ≡ true)
          → list_any (compares_up_to (random_number range.hi)) (fitted_units line) ≡ true
      by None at awake number = absurd (both_ways _ refl awake)
      by (Some u) at awake number =
          let below : unit_number u ≤ random_number range.hi = omega (arith, number_le k range.hi within, eqb-true (unit_number u) (random_number k) number) in
          passes_there _ (fitted_units line) k u at
          (and_from (is_enabled u.state) (leb (unit_number u) (random_number range.hi)) awake (le-leb (unit_number u) (random_number range.hi) below))

  probed : Probed random_rank (line_meaning line) range (probe_answer line range)
  probed = record {
    silent_if_none_awake_up_to_hi = λ asleep. ap (λ any. cond any Garbled Silent) (none_awake asleep);
    not_silent_if_one_awake = λ k from_lo within awake silent.
        let garbled : probe_answer line range ≡ Garbled = ap (λ any. cond any Garbled Silent) (one_awake k within awake) in
        let z : ◌≡◌ {A = ℕ} 0 1 = cc (garbled, silent) in
        omega arith;
  }

  -- The same for what was answered.
  pub answer_probed : (r : ProbeAnswer RandomAddress) → r ≡ probe_answer line range → Probed random_rank (line_meaning line) range r
  answer_probed r e = subst (Probed random_rank (line_meaning line) range) (sym e) probed
