-- The fixture that has a key, in a table that changes.
use Rattle.std.specs.Prelude.{◌≡◌, ℕ, Bool, true, false, cond, List, [], ◌∷◌, map, IfSome, Some, None, Option, ◌==◌, refl}
use Rattle.std.proofs.Common.{sym, ap, ◌∙◌}
use Rattle.std.proofs.lemmas.Bool.{eqb-true, eq-eqb, or_parts, not-true, cond-false}
use Rattle.std.specs.Option.{option_map}
use Rattle.std.specs.List.{AllByRecursion}
use Rattle.keys.specs.Uid.{uid_number}
use Rattle.keys.specs.declared.uid.Uid.{Uid}
use Rattle.fixtures.specs.declared.fixture.Fixture.{Fixture}
use Rattle.lines.specs.Tables.{found_passes}
use Rattle.lines.specs.Twice.{is_among, has_twice}
use Rattle.rdm_line.specs.Effects.{at_key}
use Rattle.rdm_line.specs.Means.{has_key, fixture_at}
use Rattle.rdm_line.specs.Table.{number_of, keys_distinct}
use Rattle.rdm_line.specs.Keys.{eqb_turned}

-- What is found has the key.
pub found_key : (fs : List Fixture) (key : Uid) → IfSome (fixture_at fs key) (λ f. uid_number key ≡ number_of f)
found_key fs key = by (fixture_at fs key) (found_passes (has_key key) fs)
  where
    by : (o : Option Fixture) → IfSome o (λ f. has_key key f ≡ true) → IfSome o (λ f. uid_number key ≡ number_of f)
    by None e = tt
    by (Some f) e = eqb-true (uid_number key) (number_of f) e

-- A change at one key is seen there and nowhere else.
pub found_at_key : (key : Uid) (g : Fixture → Fixture) (fs : List Fixture) (j : Uid)
    → option_map (at_key key g) (fixture_at fs j)
    ≡ cond (uid_number j == uid_number key) (option_map g (fixture_at fs j)) (fixture_at fs j)
found_at_key key g fs j = by (fixture_at fs j) (found_key fs j)
  where
    pushed : (t : Bool) (f : Fixture) → Some (cond t (g f) f) ≡ cond t (Some (g f)) (Some f)
    pushed true f = refl
    pushed false f = refl

    none : (t : Bool) → ◌≡◌ {A = Option Fixture} None (cond t None None)
    none true = refl
    none false = refl

    by : (o : Option Fixture) → IfSome o (λ f. uid_number j ≡ number_of f)
        → option_map (at_key key g) o ≡ cond (uid_number j == uid_number key) (option_map g o) o
    by None h = none (uid_number j == uid_number key)
    by (Some f) h =
        ap (λ n. Some (cond (uid_number key == n) (g f) f)) (sym h)
        ∙ ap (λ t. Some (cond t (g f) f)) (eqb_turned (uid_number key) (uid_number j))
        ∙ pushed (uid_number j == uid_number key) f

-- Where no key stands twice, each fixture is the one that has its key.
others_apart : (n : ℕ) (fs : List Fixture) → is_among n (map number_of fs) ≡ false → AllByRecursion (λ f. (n == number_of f) ≡ false) fs
others_apart n [] apart = tt
others_apart n (f ∷ fs) apart =
    let parts = or_parts (n == number_of f) (is_among n (map number_of fs)) apart in
    (parts.0, others_apart n fs parts.1)

both_of : {X : Type 0} (P Q R : X → Type 0) → ((x : X) → P x → Q x → R x) → (xs : List X) → AllByRecursion P xs → AllByRecursion Q xs → AllByRecursion R xs
both_of P Q R join [] ps qs = tt
both_of P Q R join (x ∷ xs) (p, ps) (q, qs) = (join x p q, both_of P Q R join xs ps qs)

finds_each : (fs : List Fixture) → has_twice (map number_of fs) ≡ false → AllByRecursion (λ f. fixture_at fs f.key ≡ Some f) fs
finds_each [] apart = tt
finds_each (f ∷ fs) apart =
    let parts = or_parts (is_among (number_of f) (map number_of fs)) (has_twice (map number_of fs)) apart in
    let others = others_apart (number_of f) fs parts.0 in (
      rw (eq-eqb (number_of f) (number_of f) refl),
      both_of (λ g. (number_of f == number_of g) ≡ false) (λ g. fixture_at fs g.key ≡ Some g) (λ g. fixture_at (f ∷ fs) g.key ≡ Some g)
          (λ g other here. cond-false (has_key g.key f) (Some f) (fixture_at fs g.key) (eqb_turned (number_of g) (number_of f) ∙ other) ∙ here)
          fs others (finds_each fs parts.1),
    )

pub each_found : (fs : List Fixture) → keys_distinct fs ≡ true → AllByRecursion (λ f. fixture_at fs f.key ≡ Some f) fs
unfolding keys_distinct
each_found fs apart = finds_each fs (not-true (has_twice (map number_of fs)) apart)
