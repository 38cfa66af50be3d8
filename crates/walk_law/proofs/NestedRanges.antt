-- Pending ranges stay nested: when the lowest is dropped, and when it is split.
use Rattle.std.proofs.Common.{◌≡◌, ℕ, zero, suc, ◌+◌, ◌-◌, ◌*◌, ◌^◌, ◌<◌, ◌≤◌, true, List, [], ◌∷◌, length, refl, ap, arith}
use Rattle.std.proofs.lemmas.Bool.{and_parts, and_from, eqb-true, eq-eqb, leb-true, le-leb, ltb-true, lt-ltb}
use Rattle.keys.specs.declared.range.Range.{Range}
use Rattle.walk_law.specs.Nested.{nested_from, nested}
use Rattle.walk_law.specs.Walk.{lower_half, upper_half}

-- The same, as facts.
abbrev pub NestedFrom : ℕ → ℕ → ℕ → List (Range ℕ) → Type 0
NestedFrom c low top [] = low ≡ suc top
NestedFrom c low top (s ∷ ss) =
    (s.lo ≡ low) × (s.lo ≤ s.hi) × (s.hi < s.lo + 2 ^ c) × NestedFrom (suc c) (suc s.hi) top ss

pub record Nested (levels top : ℕ) (r : Range ℕ) (rs : List (Range ℕ)) : Type 0 where
  -- The levels of the lowest range.
  pub own : ℕ
  pub few : own + length rs ≡ levels
  pub ordered : r.lo ≤ r.hi
  pub narrow : r.hi < r.lo + 2 ^ own
  pub behind : NestedFrom own (suc r.hi) top rs

from_test : (c low top : ℕ) (rs : List (Range ℕ)) → nested_from c low top rs ≡ true → NestedFrom c low top rs
unfolding nested_from
from_test c low top [] t = eqb-true low (suc top) t
from_test c low top (s ∷ ss) t =
    let p = and_parts _ _ t in
    let q = and_parts _ _ p.1 in
    let u = and_parts _ _ q.1 in
    (eqb-true _ _ p.0, leb-true _ _ q.0, ltb-true _ _ u.0, from_test (suc c) (suc s.hi) top ss u.1)

to_test : (c low top : ℕ) (rs : List (Range ℕ)) → NestedFrom c low top rs → nested_from c low top rs ≡ true
unfolding nested_from
to_test c low top [] e = eq-eqb low (suc top) e
to_test c low top (s ∷ ss) (begins, ordered, narrow, rest) =
    and_from _ _ (eq-eqb _ _ begins)
    (and_from _ _ (le-leb _ _ ordered) (and_from _ _ (lt-ltb _ _ narrow) (to_test (suc c) (suc s.hi) top ss rest)))

pub facts : (levels top : ℕ) (r : Range ℕ) (rs : List (Range ℕ)) → nested levels top (r ∷ rs) ≡ true → Nested levels top r rs
unfolding nested
facts levels top r rs t =
    let p = and_parts _ _ t in
    let q = and_parts _ _ p.1 in
    let u = and_parts _ _ q.1 in
    let fits = leb-true (length rs) levels p.0 in
    record {
      own = levels - length rs;
      few = omega arith;
      ordered = leb-true _ _ q.0;
      narrow = ltb-true _ _ u.0;
      behind = from_test _ _ _ rs u.1;
    }

pub tested : (levels top : ℕ) (r : Range ℕ) (rs : List (Range ℕ)) → Nested levels top r rs → nested levels top (r ∷ rs) ≡ true
unfolding nested
tested levels top r rs n =
    let own : n.own ≡ levels - length rs = omega arith in
    and_from _ _ (le-leb _ _ (omega arith))
    (and_from _ _ (le-leb _ _ n.ordered)
    (and_from _ _ (lt-ltb _ _ (rw own at n.narrow)) (to_test _ _ _ rs (rw own at n.behind))))

-- The ranges behind a rank do not begin above the highest.
pub begins_within : (c low top : ℕ) (rs : List (Range ℕ)) → NestedFrom c low top rs → low ≤ suc top
begins_within c low top [] e = omega arith
begins_within c low top (s ∷ ss) (begins, ordered, narrow, rest) = let ih = begins_within (suc c) (suc s.hi) top ss rest in omega arith

module _ (levels top : ℕ) where
  -- At first all keys are one range.
  pub nested_all : top < 2 ^ levels → Nested levels top (record { lo = 0; hi = top }) []
  nested_all small = record { own = levels; few = omega arith; ordered = omega arith; narrow = omega arith; behind = refl }

  -- The next range begins right behind the lowest, and stays nested when that is dropped.
  pub nested_next : (r s : Range ℕ) (rs : List (Range ℕ)) → Nested levels top r (s ∷ rs) → Nested levels top s rs
  nested_next r s rs n =
      let b = n.behind in
      record {
        own = suc n.own;
        few = omega arith;
        ordered = b.1;
        narrow = let wider : 2 ^ suc n.own ≡ 2 * 2 ^ n.own = omega arith in omega arith;
        behind = b.3;
      }

  -- The halves of a range of two keys or more are nested in its place.
  pub nested_halves : (r : Range ℕ) (rs : List (Range ℕ)) → Nested levels top r rs → r.lo < r.hi → Nested levels top (lower_half r) (upper_half r ∷ rs)
  nested_halves r rs n less = by n.own refl
    where
      by : (c : ℕ) → n.own ≡ c → Nested levels top (lower_half r) (upper_half r ∷ rs)
      by zero e = absurd (let one : 2 ^ n.own ≡ 1 = ap (λ x. 2 ^ x) e in omega arith)
      by (suc c) e =
          let narrow : r.hi < r.lo + 2 ^ suc c = rw e at n.narrow in
          record {
            own = c;
            few = omega arith;
            ordered = omega arith;
            narrow = omega arith;
            behind = (omega arith, omega arith, omega arith, rw e at n.behind);
          }
