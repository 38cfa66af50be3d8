-- Fixtures that are fitted one after the other.
use Rattle.std.proofs.Common.{◌≡◌, ℕ, ◌+◌, ◌-◌, Bool, true, false, cond, ◌&&◌, eqb, leb, List, [], ◌∷◌, ◌++◌, map, length, drop, set, replicate, Some, None, sym, refl, ap, ◌∙◌, arith}
use Rattle.std.proofs.lemmas.List.{drop-set-lt, drop-drop, drop-replicate}
use Rattle.std.proofs.lemmas.Bool.{and_parts, and_from}
use Rattle.std.proofs.lemmas.Bool.Decides.{nat_tests}
use Rattle.std.specs.List.{list_all}
use Rattle.keys.specs.KeyNumbers.{is_uid_number}
use Rattle.keys.specs.Uid.{uid_number}
use Rattle.keys.specs.declared.uid.Uid.{Uid}
use Rattle.fixtures.specs.Fixture.{first_address}
use Rattle.fixtures.specs.declared.fixture.Fixture.{Fixture}
use Rattle.rdm_line.specs.Keys.{same_from_number}
use Rattle.rdm_line.specs.Making.{empty_place, EmptyBehind, fits_one, each_fits, width_of, as_delivered, Delivered}
use Rattle.rdm_line.specs.Table.{number_of, distinct, address_fits, is_sound, keys_distinct, all_sound}

-- These fixtures are fitted, and these keys and widths are left.
pub record FittedSoFar (keys widths : List ℕ) (fs : List Fixture) (keys_left widths_left : List ℕ) : Type 0 where
  pub keys_in_order : map number_of fs ++ keys_left ≡ keys
  pub widths_in_order : map width_of fs ++ widths_left ≡ widths
  pub fresh : map as_delivered fs ≡ fs
  pub rest_decides : each_fits keys_left widths_left ≡ each_fits keys widths
  pub as_many : length keys_left ≡ length widths_left

-- All places are empty at first; a fixture that is put into the first of them leaves those behind it empty.
pub all_empty : (key : Uid) → uid_number key ≡ 0 → EmptyBehind 0 (replicate 128 (record { key = key; width = 0; address = None; muted = false }))
all_empty key zero =
    ap (λ k. replicate 128 (record { key = k; width = 0; address = None; muted = false })) (same_from_number key empty_place.key zero)

pub still_empty : (i : ℕ) (places : List Fixture) (f : Fixture) → EmptyBehind i places → EmptyBehind (i + 1) (set places i f)
still_empty i places f empty =
    drop-set-lt (i + 1) places i f (omega arith)
    ∙ sym (drop-drop 1 i places)
    ∙ ap (drop 1) empty
    ∙ drop-replicate 1 (128 - i) empty_place
    ∙ ap (λ n. replicate n empty_place) (omega arith)

-- What is delivered is sound.
delivered_sound : (f : Fixture) → leb f.width 512 ≡ true → as_delivered f ≡ f → is_sound f ≡ true
delivered_sound f small fresh = ap is_sound (sym fresh) ∙ by f.width small
  where
    by : (width : ℕ) → leb width 512 ≡ true → (leb width 512 && address_fits width (first_address width)) ≡ true
    by width small = and_from (leb width 512) (address_fits width (first_address width)) small (fits (eqb width 0) refl)
      where
        fits : (narrow : Bool) → eqb width 0 ≡ narrow → address_fits width (cond narrow None (Some (record { slot = 1 }))) ≡ true
        fits true e = refl
        fits false e = grind (arith, nat_tests)

-- The widths of fixtures that fit are up to 512.
all_delivered_sound : (keys : List ℕ) (fs : List Fixture) → length keys ≡ length (map width_of fs) → each_fits keys (map width_of fs) ≡ true → map as_delivered fs ≡ fs → list_all is_sound fs ≡ true
all_delivered_sound keys [] as_many fits fresh = refl
all_delivered_sound [] (f ∷ fs) as_many fits fresh = absurd (omega arith)
all_delivered_sound (key ∷ keys) (f ∷ fs) as_many fits fresh =
    let parts = and_parts (fits_one key f.width) (each_fits keys (map width_of fs)) fits in
    let small = (and_parts (is_uid_number key) (leb f.width 512) parts.0).1 in
    let this : as_delivered f ≡ f = cc in
    let others : map as_delivered fs ≡ fs = cc in
    and_from (is_sound f) (list_all is_sound fs) (delivered_sound f small this) (all_delivered_sound keys fs (omega arith) parts.1 others)

-- A table of delivered fixtures keeps what a line keeps.
module _ (keys widths : List ℕ) (fs : List Fixture) (done : Delivered keys widths fs) where
  pub delivered_apart : distinct keys ≡ true → keys_distinct fs ≡ true
  unfolding keys_distinct
  delivered_apart apart = ap distinct done.keys_in_order ∙ apart

  pub delivered_all_sound : length keys ≡ length widths → each_fits keys widths ≡ true → all_sound fs ≡ true
  unfolding all_sound
  delivered_all_sound as_many fits =
      all_delivered_sound keys fs (as_many ∙ ap length (sym done.widths_in_order)) (ap (each_fits keys) done.widths_in_order ∙ fits) done.fresh
