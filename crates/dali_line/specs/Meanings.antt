-- What the functions of the line leave of its meaning.
use Rattle.std.specs.Prelude.{◌≡◌, Bool, true, false, cond, not, ◌&&◌, ◌||◌, List, [], ◌∷◌, is_some, IfSome, Some, None, filter, Option, ◌==◌, nat_eq}
use Rattle.std.proofs.Math.Path.{refl, sym, ap}
use Rattle.std.proofs.Common.{◌∙◌, arith}
use Rattle.std.proofs.Math.Bool.{and-true}
use Rattle.std.proofs.lemmas.Bool.{not-true, both_ways, eqb-true}
use Rattle.std.proofs.lemmas.Bool.Decides.{nat_tests}
use Rattle.std.specs.List.{list_any}
use Rattle.std.specs.Option.{option_map, option_to_list}
use Rattle.keys.specs.Address.{in_family}
use Rattle.keys.specs.RandomAddress.{random_number, random_rank}
use Rattle.keys.specs.declared.address.Address.{Address}
use Rattle.keys.specs.declared.random_address.RandomAddress.{RandomAddress}
use Rattle.dali.specs.declared.short_address.ShortAddress.{ShortAddress}
use Rattle.lines.proofs.Meanings.{some_mapped}
use Rattle.lines.specs.Meaning.{Fitted, Meaning, Sound, SoundFixture}
use Rattle.lines.specs.Rules.{with_awake, with_address, changed_at, roused, rested, hush_answer, hushed, footprint_of, query_answer, wide_there, set_answer, addressed}
use Rattle.lines.specs.Tables.{found_changed, found_passes, found_keeps}
use Rattle.units.specs.State.{is_disabled, is_enabled}
use Rattle.units.specs.Unit.{with_state}
use Rattle.units.specs.declared.state.State.{State}
use Rattle.units.specs.declared.state.State.TheVariants.{Disabled, Enabled, Withdrawn}
use Rattle.units.specs.declared.unit.Unit.{Unit}
use Rattle.dali_line.specs.Changes.{withdrawn_shut, withdrawn_open, withdrawn_keeps, addressed_shut, addressed_open, addressed_keeps}
use Rattle.dali_line.specs.Ranks.{same_tests, same_key}
use Rattle.dali_line.specs.Tables.{selected_are}
use Rattle.dali_line.specs.Calls.{changed}
use Rattle.dali_line.specs.Controller.{selected_at, withdrawn_at, addressed_at, told}
use Rattle.dali_line.specs.Meaning.{fixture_of, footprint_at, slot_of, fitted_units, line_meaning}
use Rattle.dali_line.specs.Table.{unit_number, fits, unit_at}
use Rattle.dali_line.specs.declared.line.DaliLine.{DaliLine}

mapped_mapped : {A B C : Type 0} (g : B → C) (f : A → B) (o : Option A) → option_map g (option_map f o) ≡ option_map (λ x. g (f x)) o
mapped_mapped g f None = refl
mapped_mapped g f (Some x) = refl

-- Two meanings are the same if they are so at every key.
same_meaning : {K : Type 0} (m n : Meaning K) → m.live ≡ n.live → ((k : K) → m.at k ≡ n.at k) → m ≡ n
same_meaning m n live at = λ i. record { live = live i; at = λ k. at k i }

-- What a line with these units means.
abbrev meaning_with : Bool → List Unit → Meaning RandomAddress
meaning_with live units = record { live = live; at = λ k. option_map fixture_of (unit_at units k) }

-- What is at a key once every fitted unit is changed.
at_changed : (line : DaliLine) (units : List Unit) (f : Unit → Unit) → ((u : Unit) → (f u).key ≡ u.key)
    → units ≡ changed f line
    → (k : RandomAddress)
    → option_map fixture_of (unit_at units k) ≡ option_map (λ u. fixture_of (f u)) (unit_at (fitted_units line) k)
at_changed line units f keeps e k =
    ap (λ us. option_map fixture_of (unit_at us k)) e
    ∙ ap (option_map fixture_of) (found_changed (λ u. unit_number u == random_number k) f (λ u. ap (λ x. random_number x == random_number k) (keeps u)) (fitted_units line))
    ∙ mapped_mapped fixture_of f (unit_at (fitted_units line) k)

module _ (line : DaliLine) (units : List Unit) where
  pub means_same : units ≡ fitted_units line → meaning_with line.live units ≡ line_meaning line
  means_same e = ap (meaning_with line.live) e

  pub means_roused : units ≡ changed (with_state Enabled) line → meaning_with true units ≡ roused (line_meaning line)
  unfolding roused
  means_roused e =
      same_meaning (meaning_with true units) (roused (line_meaning line)) refl
      (λ k. at_changed line units (with_state Enabled) (λ u. refl) e k ∙ sym (mapped_mapped (with_awake true) fixture_of (unit_at (fitted_units line) k)))

  pub means_rested : units ≡ changed (with_state Disabled) line → meaning_with false units ≡ rested (line_meaning line)
  unfolding rested
  means_rested e =
      same_meaning (meaning_with false units) (rested (line_meaning line)) refl
      (λ k. at_changed line units (with_state Disabled) (λ u. refl) e k ∙ sym (mapped_mapped (with_awake false) fixture_of (unit_at (fitted_units line) k)))

-- A change of the unit of one key, which leaves disabled units as they are.
module _
    (key : RandomAddress)
    (f : Unit → Unit)
    (g : Fitted → Fitted)
    (shut : (u : Unit) → is_disabled u.state ≡ true → f u ≡ u)
    (open' : (u : Unit) → is_disabled u.state ≡ false → fixture_of (f u) ≡ cond (unit_number u == random_number key) (g (fixture_of u)) (fixture_of u))
  where
    nobody : (changes here : Bool) → ◌≡◌ {A = Option Fitted} None (cond changes (cond here None None) None)
    nobody true true = refl
    nobody true false = refl
    nobody false here = refl

    -- At any key, by what is there, what is at the changed key, and whether they are the same.
    at_one : (live : Bool) (o there : Option Unit) (here : Bool)
        → IfSome o (λ u. fits live u ≡ true)
        → IfSome o (λ u. (unit_number u == random_number key) ≡ here)
        → (here ≡ true → o ≡ there)
        → option_map (λ u. fixture_of (f u)) o ≡ cond (live && is_some there) (cond here (option_map g (option_map fixture_of o)) (option_map fixture_of o)) (option_map fixture_of o)
    at_one live None there here fit number same = nobody (live && is_some there) here
    at_one false (Some u) there here fit number same = ap (λ v. Some (fixture_of v)) (shut u fit)
    at_one true (Some u) None true fit number same = cc (same refl)
    at_one true (Some u) None false fit number same =
        ap Some (open' u (not-true _ fit) ∙ ap (λ t. cond t (g (fixture_of u)) (fixture_of u)) number)
    at_one true (Some u) (Some v) true fit number same =
        ap Some (open' u (not-true _ fit) ∙ ap (λ t. cond t (g (fixture_of u)) (fixture_of u)) number)
    at_one true (Some u) (Some v) false fit number same =
        ap Some (open' u (not-true _ fit) ∙ ap (λ t. cond t (g (fixture_of u)) (fixture_of u)) number)

    -- The number of what is at a key is the key's.
    same_number : (k : RandomAddress) (o : Option Unit) → IfSome o (λ u. (unit_number u == random_number k) ≡ true)
        → IfSome o (λ u. (unit_number u == random_number key) ≡ (random_number k == random_number key))
    same_number k None is = tt
    same_number k (Some u) is = ap (λ m. nat_eq m (random_number key)) (eqb-true (unit_number u) (random_number k) is)

    one_changed : (line : DaliLine) (units : List Unit) → ((u : Unit) → (f u).key ≡ u.key)
        → units ≡ changed f line
        → meaning_with line.live units
        ≡ cond (line.live && is_some (unit_at (fitted_units line) key)) (changed_at random_rank key g (line_meaning line)) (line_meaning line)
    one_changed line units keeps e =
        let us = fitted_units line in
        let m = line_meaning line in
        let after = meaning_with line.live units in
        let there = is_some (unit_at us key) in
        let each : (k : RandomAddress) → after.at k ≡ cond (line.live && there) ((changed_at random_rank key g m).at k) (m.at k) =
        λ k.
        at_changed line units f keeps e k
        ∙ at_one line.live (unit_at us k) (unit_at us key) (random_number k == random_number key)
        (found_keeps (λ u. unit_number u == random_number k) (fits line.live) us line.states)
        (same_number k (unit_at us k) (found_passes (λ u. unit_number u == random_number k) us))
        (λ is. ap (unit_at us) (same_key k key (eqb-true (random_number k) (random_number key) is)))
        ∙ ap (λ t. cond (line.live && there) (cond t (option_map g (m.at k)) (m.at k)) (m.at k)) (sym (same_tests k key)) in
        elim (line.live && there) as
        (λ b. ((k : RandomAddress) → after.at k ≡ cond b ((changed_at random_rank key g m).at k) (m.at k)) → after ≡ cond b (changed_at random_rank key g m) m)
        [ true ↦ λ at. same_meaning after (changed_at random_rank key g m) refl at | false ↦ λ at. same_meaning after m refl at ]
        each

pub means_hushed : (key : RandomAddress) (line : DaliLine) (units : List Unit) → units ≡ changed (withdrawn_at (random_number key)) line
    → meaning_with line.live units ≡ hushed random_rank (line_meaning line) key
unfolding hushed
means_hushed key line units e =
    let n = random_number key in
    let m = line_meaning line in
    one_changed key (withdrawn_at n) (with_awake false) (withdrawn_shut n) (λ u _. withdrawn_open n u) line units (withdrawn_keeps n) e
    ∙ ap (λ t. cond (line.live && t) (changed_at random_rank key (with_awake false) m) m) (sym (some_mapped fixture_of (unit_at (fitted_units line) key)))

-- An address that a unit can have is in the family, and every unit is wide enough for one.
pub short_in_family : (a : ShortAddress) (address : Address) → a.value ≡ address.slot → in_family 0 64 address ≡ true
short_in_family a address e = grind (arith, nat_tests)

wide_there_is : (o : Option Unit) → wide_there (option_map fixture_of o) ≡ is_some o
wide_there_is (Some u) = refl
wide_there_is None = refl

module _ (key : RandomAddress) (address : Address) (line : DaliLine) where
  -- Whether the address is taken, for one that can be sent.
  pub set_answer_is : (a : ShortAddress) → a.value ≡ address.slot → set_answer 0 64 (line_meaning line) key address ≡ (line.live && is_some (unit_at (fitted_units line) key))
  set_answer_is a e =
      let o = unit_at (fitted_units line) key in
      ap (λ t. line.live && (wide_there (option_map fixture_of o) && t)) (short_in_family a address e)
      ∙ ap (λ t. line.live && t) (and-true _ ∙ wide_there_is o)

  -- No other address is taken.
  pub set_answer_no : in_family 0 64 address ≡ false → set_answer 0 64 (line_meaning line) key address ≡ false
  set_answer_no e = ap (λ t. line.live && (wide_there ((line_meaning line).at key) && t)) e ∙ grind arith

  pub means_not_addressed : in_family 0 64 address ≡ false → line_meaning line ≡ addressed random_rank 0 64 (line_meaning line) key address
  unfolding addressed
  means_not_addressed e =
      sym (ap (λ t. cond t (changed_at random_rank key (with_address address) (line_meaning line)) (line_meaning line)) (set_answer_no e))

  pub means_addressed : (units : List Unit) (a : ShortAddress) → a.value ≡ address.slot
      → units ≡ changed (addressed_at (random_number key) a) line
      → meaning_with line.live units ≡ addressed random_rank 0 64 (line_meaning line) key address
  unfolding addressed
  means_addressed units a slot e =
      let n = random_number key in
      let is : slot_of a ≡ address = λ i. record { slot = slot i } in
      one_changed key (addressed_at n a) (with_address address) (addressed_shut n a) (addressed_open n a address is) line units (addressed_keeps n a) e
      ∙ ap (λ t. cond t (changed_at random_rank key (with_address address) (line_meaning line)) (line_meaning line)) (sym (set_answer_is a slot))

-- The answers, by the one unit that is selected.
not_empty : List Unit → Bool
not_empty [] = false
not_empty (u ∷ us) = true

any_kept : (test : Unit → Bool) (us : List Unit) → list_any test us ≡ not_empty (filter test us)
unfolding not_empty
any_kept test [] = refl
any_kept test (u ∷ us) =
    let rest = any_kept test us in
    elim (test u) as
    (λ t. (t || list_any test us) ≡ not_empty (cond t (u ∷ filter test us) (filter test us)))
    [ true ↦ refl | false ↦ rest ]

-- The units that a function of the line lends: the vector of its wire holds no others.
abbrev pub lent_units : DaliLine → List Unit
lent_units line = line.wire.units.items

pub lent_are : (line : DaliLine) → lent_units line ≡ fitted_units line
lent_are line = refl

module _ (line : DaliLine) (key : RandomAddress) where
  selected : filter (selected_at (random_number key)) (fitted_units line) ≡ cond line.live (option_to_list (unit_at (fitted_units line) key)) []
  selected = selected_are line.live key (fitted_units line) line.distinct line.states

  pub hush_answer_is : list_any (selected_at (random_number key)) (fitted_units line) ≡ hush_answer (line_meaning line) key
  unfolding not_empty
  hush_answer_is = any_kept _ (fitted_units line) ∙ ap not_empty selected ∙ by line.live (unit_at (fitted_units line) key)
    where
      by : (live : Bool) (o : Option Unit) → not_empty (cond live (option_to_list o) []) ≡ (live && is_some (option_map fixture_of o))
      by true (Some u) = refl
      by true None = refl
      by false o = refl

  pub query_answer_is : (address : Option (Option ShortAddress)) → address ≡ told (filter (selected_at (random_number key)) (fitted_units line))
      → option_map footprint_at address ≡ query_answer (line_meaning line) key
  query_answer_is address e = ap (option_map footprint_at) (e ∙ ap told selected) ∙ by line.live (unit_at (fitted_units line) key)
    where
      by : (live : Bool) (o : Option Unit) → option_map footprint_at (told (cond live (option_to_list o) [])) ≡ cond live (option_map footprint_of (option_map fixture_of o)) None
      by true (Some u) = refl
      by true None = refl
      by false o = refl

  pub one_told_is : is_some (told (filter (selected_at (random_number key)) (fitted_units line))) ≡ (line.live && is_some (unit_at (fitted_units line) key))
  one_told_is = ap (λ us. is_some (told us)) selected ∙ by line.live (unit_at (fitted_units line) key)
    where
      by : (live : Bool) (o : Option Unit) → is_some (told (cond live (option_to_list o) [])) ≡ (live && is_some o)
      by true (Some u) = refl
      by true None = refl
      by false o = refl

-- What every meaning keeps.
pub sound : (line : DaliLine) → Sound 0 64 (line_meaning line)
sound line k = by (unit_at (fitted_units line) k) (found_keeps (λ u. unit_number u == random_number k) (fits line.live) (fitted_units line) line.states)
  where
    in_the_family : (a : Option ShortAddress) → IfSome (option_map slot_of a) (λ s. in_family 0 64 s ≡ true)
    in_the_family (Some a) = short_in_family a (slot_of a) refl
    in_the_family None = tt

    asleep : (s : State) (live : Bool) → cond live (not (is_disabled s)) (is_disabled s) ≡ true → live ≡ false → is_enabled s ≡ false
    asleep Disabled live fit shut = refl
    asleep Enabled true fit shut = shut
    asleep Enabled false fit shut = absurd (both_ways _ refl fit)
    asleep Withdrawn live fit shut = refl

    by : (o : Option Unit) → IfSome o (λ u. fits line.live u ≡ true) → IfSome (option_map fixture_of o) (SoundFixture 0 64 line.live)
    by None fit = tt
    by (Some u) fit = record {
      width_at_most_count = omega arith;
      address_in_family = in_the_family u.address;
      no_address_at_width_0 = λ e. absurd (omega arith);
      asleep_while_shut = asleep u.state line.live fit;
    }
