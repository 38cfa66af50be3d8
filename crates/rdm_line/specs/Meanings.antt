-- What the line means after each function, and that its meaning is sound.
use Rattle.std.specs.Prelude.{◌≡◌, ℕ, Bool, true, false, cond, not, ◌&&◌, ◌||◌, map, is_some, IfSome, Some, None, Option, ◌==◌, nat_le}
use Rattle.std.proofs.Math.Path.{refl, ap}
use Rattle.std.proofs.Common.{sym, subst, ◌∙◌, arith}
use Rattle.std.proofs.lemmas.Bool.{both_ways, eqb-true, and_parts, leb-true, cond-true, cond-false, cond_both}
use Rattle.std.proofs.lemmas.Bool.Decides.{nat_tests}
use Rattle.std.proofs.Math.Bool.{and-true, and-false}
use Rattle.std.specs.List.{list_all}
use Rattle.std.specs.Option.{option_map}
use Rattle.keys.specs.Uids.{same_from_rank}
use Rattle.keys.specs.Address.{in_family}
use Rattle.keys.specs.Uid.{uid_rank, uid_number}
use Rattle.keys.specs.declared.address.Address.{Address}
use Rattle.keys.specs.declared.uid.Uid.{Uid}
use Rattle.fixtures.specs.Reaction.{with_muted, with_address}
use Rattle.fixtures.specs.declared.fixture.Fixture.{Fixture}
use Rattle.lines.specs.Meaning.{Fitted, Meaning, Sound, SoundFixture}
use Rattle.lines.specs.Rules as rules
use Rattle.lines.specs.Rules.{with_awake, roused, rested, changed_at, hushed, wide_there, addressed}
use Rattle.lines.specs.Tables.{found_changed, found_keeps}
use Rattle.rdm_line.specs.Effects.{at_key, moved_to, roused_state, rested_state, hushed_state, addressed_state}
use Rattle.rdm_line.specs.Means.{has_key, fixture_at, seen, meaning_of}
use Rattle.rdm_line.specs.State.{State, fitted, with_fitted, with_live}
use Rattle.rdm_line.specs.Table.{address_fits, is_sound, is_muted, all_sound, muted_unless}
use Rattle.rdm_line.specs.Finding.{found_at_key}
use Rattle.rdm_line.specs.Keys.{same_test}
use Rattle.rdm_line.specs.Maps.{first_changed}

pub live_meaning : (s : State) → s.live ≡ (meaning_of s).live
unfolding meaning_of
live_meaning s = refl

-- A muted fixture is seen asleep, and an un-muted one awake.
seen_switched : (muted : Bool) (o : Option Fixture) → option_map seen (option_map (with_muted muted) o) ≡ option_map (with_awake (not muted)) (option_map seen o)
seen_switched muted None = refl
seen_switched muted (Some f) = refl

-- Where every fixture is muted, all are asleep as they are.
asleep_already : (o : Option Fixture) → IfSome o (λ f. is_muted f ≡ true) → option_map seen o ≡ option_map (with_awake false) (option_map seen o)
asleep_already None muted = refl
asleep_already (Some f) muted = ap (λ b. Some (record { awake = not b; width = f.width; address = f.address })) muted

module _ (s : State) where
  found_after : (g : Fixture → Fixture) → ((f : Fixture) → (g f).key ≡ f.key) → (key : Uid)
      → fixture_at (fitted (with_fitted (map g) s)) key ≡ option_map g (fixture_at (fitted s) key)
  found_after g same key =
      ap (λ fs. fixture_at fs key) (first_changed g s.count s.places)
      ∙ found_changed (has_key key) g (λ f. ap (λ k. uid_number key == uid_number k) (same f)) (fitted s)

  pub rouse_means : meaning_of (roused_state s) ≡ roused (meaning_of s)
  unfolding meaning_of roused_state roused
  rouse_means = λ i. record { live = true; at = λ key. at key i }
    where
      at : (key : Uid) → option_map seen (fixture_at (fitted (with_fitted (map (with_muted false)) s)) key) ≡ option_map (with_awake true) (option_map seen (fixture_at (fitted s) key))
      at key = ap (option_map seen) (found_after (with_muted false) (λ f. refl) key) ∙ seen_switched false (fixture_at (fitted s) key)

  pub rest_means : muted_unless s.live (fitted s) ≡ true → meaning_of (rested_state s) ≡ rested (meaning_of s)
  unfolding meaning_of rested_state rested muted_unless
  rest_means quiet = by s.live refl quiet
    where
      muted_at : (key : Uid) → option_map seen (fixture_at (fitted (with_fitted (map (with_muted true)) s)) key) ≡ option_map (with_awake false) (option_map seen (fixture_at (fitted s) key))
      muted_at key = ap (option_map seen) (found_after (with_muted true) (λ f. refl) key) ∙ seen_switched true (fixture_at (fitted s) key)

      by : (live : Bool) → s.live ≡ live → (live || list_all is_muted (fitted s)) ≡ true
          → meaning_of (cond live (with_live false (with_fitted (map (with_muted true)) s)) s) ≡ record { live = false; at = λ key. option_map (with_awake false) (option_map seen (fixture_at (fitted s) key)) }
      by true e all = λ i. record { live = false; at = λ key. muted_at key i }
      by false e all = λ i. record { live = e i; at = λ key. asleep_already (fixture_at (fitted s) key) (found_keeps (has_key key) is_muted (fitted s) all) i }

-- A change of what is fitted at one key, which takes place exactly if the answer is yes.
module _ (m n : Meaning Uid) (key : Uid) (change : Fitted → Fitted) (g : Option Fitted → Option Fitted) (live : n.live ≡ m.live) (at : (j : Uid) → n.at j ≡ cond (uid_rank j == uid_rank key) (g (m.at j)) (m.at j)) where
  there : (P : Uid → Type 0) → P key → (j : Uid) → (uid_rank j == uid_rank key) ≡ true → P j
  there P this j e = subst P (sym (same_from_rank j key (eqb-true (uid_rank j) (uid_rank key) e))) this

  changed_if : (yes : Bool) → (yes ≡ true → g (m.at key) ≡ option_map change (m.at key)) → (yes ≡ false → g (m.at key) ≡ m.at key)
      → n ≡ cond yes (changed_at uid_rank key change m) m
  changed_if true made kept = λ i. record { live = live i; at = λ j. (at j ∙ by j (uid_rank j == uid_rank key) refl) i }
    where
      by : (j : Uid) (same : Bool) → (uid_rank j == uid_rank key) ≡ same → cond same (g (m.at j)) (m.at j) ≡ cond same (option_map change (m.at j)) (m.at j)
      by j true e = there (λ k. g (m.at k) ≡ option_map change (m.at k)) (made refl) j e
      by j false e = refl
  changed_if false made kept = λ i. record { live = live i; at = λ j. (at j ∙ by j (uid_rank j == uid_rank key) refl) i }
    where
      by : (j : Uid) (same : Bool) → (uid_rank j == uid_rank key) ≡ same → cond same (g (m.at j)) (m.at j) ≡ m.at j
      by j true e = there (λ k. g (m.at k) ≡ m.at k) (kept refl) j e
      by j false e = refl

keeps_key : (key : Uid) (g : Fixture → Fixture) → ((f : Fixture) → (g f).key ≡ f.key) → (f : Fixture) → (at_key key g f).key ≡ f.key
keeps_key key g same f = cond_both (has_key key f) (g f) f (λ h. h.key ≡ f.key) (λ _. same f) (λ _. refl)

-- What is seen of a change at one key.
module _ (s : State) (key : Uid) (g : Fixture → Fixture) (same : (f : Fixture) → (g f).key ≡ f.key) (h : Fitted → Fitted) (shows : (f : Fixture) → seen (g f) ≡ h (seen f)) where
  seen_at_key : (o : Option Fixture) (t : Bool) → option_map seen (cond t (option_map g o) o) ≡ cond t (option_map h (option_map seen o)) (option_map seen o)
  seen_at_key None true = refl
  seen_at_key (Some f) true = ap Some (shows f)
  seen_at_key None false = refl
  seen_at_key (Some f) false = refl

  changed_there : (j : Uid) → option_map seen (fixture_at (fitted (with_fitted (map (at_key key g)) s)) j)
      ≡ cond (uid_rank j == uid_rank key) (option_map h (option_map seen (fixture_at (fitted s) j))) (option_map seen (fixture_at (fitted s) j))
  changed_there j =
      ap (option_map seen) (found_after s (at_key key g) (keeps_key key g same) j ∙ found_at_key key g (fitted s) j)
      ∙ seen_at_key (fixture_at (fitted s) j) (uid_number j == uid_number key)
      ∙ ap (λ t. cond t (option_map h (option_map seen (fixture_at (fitted s) j))) (option_map seen (fixture_at (fitted s) j))) (sym (same_test j key))

-- hush
nothing_to_hush : (o : Option Fitted) → is_some o ≡ false → option_map (with_awake false) o ≡ o
nothing_to_hush None e = refl
nothing_to_hush (Some t) e = absurd (both_ways true e refl)

module _ (s : State) where
  pub hush_means : (key : Uid) → meaning_of (hushed_state key s) ≡ hushed uid_rank (meaning_of s) key
  unfolding meaning_of hushed_state hushed
  hush_means key = by s.live
    where
      by : (live : Bool) → meaning_of (cond live (with_fitted (map (at_key key (with_muted true))) s) s)
          ≡ cond (live && is_some (option_map seen (fixture_at (fitted s) key))) (changed_at uid_rank key (with_awake false) (meaning_of s)) (meaning_of s)
      by false = refl
      by true =
          changed_if (meaning_of s) (meaning_of (with_fitted (map (at_key key (with_muted true))) s)) key (with_awake false) (option_map (with_awake false)) refl
          (changed_there s key (with_muted true) (λ f. refl) (with_awake false) (λ f. refl))
          (is_some (option_map seen (fixture_at (fitted s) key)))
          (λ _. refl)
          (nothing_to_hush (option_map seen (fixture_at (fitted s) key)))

-- set
abbrev moved_there : Address → Fitted → Fitted
moved_there a t = cond (t.width == 0) t (rules.with_address a t)

seen_moved : (a : Address) (f : Fixture) → seen (moved_to a f) ≡ moved_there a (seen f)
seen_moved a f = by (f.width == 0)
  where
    by : (narrow : Bool) → seen (cond narrow f (with_address a f)) ≡ cond narrow (seen f) (rules.with_address a (seen f))
    by true = refl
    by false = refl

moved_key : (a : Address) (f : Fixture) → (moved_to a f).key ≡ f.key
moved_key a f = cond_both (f.width == 0) f (with_address a f) (λ g. g.key ≡ f.key) (λ _. refl) (λ _. refl)

wide_moves : (a : Address) (o : Option Fitted) → wide_there o ≡ true → option_map (moved_there a) o ≡ option_map (rules.with_address a) o
wide_moves a None e = refl
wide_moves a (Some t) e = ap Some (cond-false (t.width == 0) t (rules.with_address a t) (grind (arith, nat_tests)))

narrow_stays : (a : Address) (o : Option Fitted) → wide_there o ≡ false → option_map (moved_there a) o ≡ o
narrow_stays a None e = refl
narrow_stays a (Some t) e = ap Some (cond-true (t.width == 0) t (rules.with_address a t) (grind (arith, nat_tests)))

module _ (s : State) where
  pub set_means : (key : Uid) (a : Address) → meaning_of (addressed_state key a s) ≡ addressed uid_rank 1 512 (meaning_of s) key a
  unfolding meaning_of addressed_state addressed
  set_means key a = by s.live (in_family 1 512 a)
    where
      by : (live inside : Bool) → meaning_of (cond (live && inside) (with_fitted (map (at_key key (moved_to a))) s) s)
          ≡ cond (live && (wide_there (option_map seen (fixture_at (fitted s) key)) && inside)) (changed_at uid_rank key (rules.with_address a) (meaning_of s)) (meaning_of s)
      by false inside = refl
      by true false = ap (λ t. cond t (changed_at uid_rank key (rules.with_address a) (meaning_of s)) (meaning_of s)) (sym (and-false (wide_there (option_map seen (fixture_at (fitted s) key)))))
      by true true =
          changed_if (meaning_of s) (meaning_of (with_fitted (map (at_key key (moved_to a))) s)) key (rules.with_address a) (option_map (moved_there a)) refl
          (changed_there s key (moved_to a) (moved_key a) (moved_there a) (seen_moved a))
          (wide_there (option_map seen (fixture_at (fitted s) key)))
          (wide_moves a (option_map seen (fixture_at (fitted s) key)))
          (narrow_stays a (option_map seen (fixture_at (fitted s) key)))
          ∙ ap (λ t. cond t (changed_at uid_rank key (rules.with_address a) (meaning_of s)) (meaning_of s)) (sym (and-true (wide_there (option_map seen (fixture_at (fitted s) key)))))

-- What is seen of a sound fixture is sound.
address_inside : (width : ℕ) (o : Option Address) → address_fits width o ≡ true → IfSome o (λ a. in_family 1 512 a ≡ true)
address_inside width None fits = tt
address_inside width (Some a) fits = (and_parts (nat_le 1 width) (in_family 1 512 a) fits).1

no_address : (width : ℕ) (o : Option Address) → address_fits width o ≡ true → width ≡ 0 → o ≡ None
no_address width None fits narrow = refl
no_address width (Some a) fits narrow = absurd (omega (arith, leb-true 1 width (and_parts (nat_le 1 width) (in_family 1 512 a) fits).0))

seen_sound : (f : Fixture) (live : Bool) → is_sound f ≡ true → (live ≡ false → is_muted f ≡ true) → SoundFixture 1 512 live (seen f)
seen_sound f live sound muted =
    let parts = and_parts (nat_le f.width 512) (address_fits f.width f.address) sound in
    record {
      width_at_most_count = leb-true f.width 512 parts.0;
      address_in_family = address_inside f.width f.address parts.1;
      no_address_at_width_0 = no_address f.width f.address parts.1;
      asleep_while_shut = λ shut. ap not (muted shut);
    }

pub means_sound : (s : State) → all_sound (fitted s) ≡ true → muted_unless s.live (fitted s) ≡ true → Sound 1 512 (meaning_of s)
unfolding meaning_of all_sound muted_unless
means_sound s sound muted key = by (fixture_at (fitted s) key) (found_keeps (has_key key) is_sound (fitted s) sound) (λ shut. found_keeps (has_key key) is_muted (fitted s) (rw shut at muted))
  where
    by : (o : Option Fixture) → IfSome o (λ f. is_sound f ≡ true) → (s.live ≡ false → IfSome o (λ f. is_muted f ≡ true)) → IfSome (option_map seen o) (SoundFixture 1 512 s.live)
    by None fine quiet = tt
    by (Some f) fine quiet = seen_sound f s.live fine quiet
