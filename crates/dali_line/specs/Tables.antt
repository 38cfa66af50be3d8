-- Tables of units.
use Rattle.std.specs.Prelude.{◌≡◌, ℕ, zero, suc, ◌-◌, Bool, true, false, cond, not, ◌&&◌, List, [], ◌∷◌, ◌++◌, map, take, drop, Some, filter, ◌==◌, refl}
use Rattle.std.proofs.Common.{sym, ap, ◌∙◌, arith}
use Rattle.std.proofs.Math.Nat.{sub-zero}
use borrow.Rule.Slice.PartMut.{post_of}
use Rattle.std.proofs.lemmas.List.{take-append-drop}
use Rattle.std.proofs.lemmas.Bool.{and_parts, or_parts, eqb-true}
use Rattle.std.proofs.lemmas.Bool.Decides.{nat_tests}
use Rattle.std.specs.Option.{option_to_list}
use Rattle.keys.specs.RandomAddress.{random_number}
use Rattle.keys.specs.declared.random_address.RandomAddress.{RandomAddress}
use Rattle.units.specs.State.{is_disabled}
use Rattle.units.specs.declared.unit.Unit.{Unit}
use Rattle.dali_line.specs.Controller.{selected_at}
use Rattle.lines.specs.Twice.{is_among, has_twice}
use Rattle.dali_line.specs.Table.{unit_number, all_fit, unit_at, changed_first}

-- The first units, once they are changed.
pub take-changed : (f : Unit → Unit) (n : ℕ) (us : List Unit) → take n (changed_first f n us) ≡ map f (take n us)
take-changed f zero us = refl
take-changed f (suc n) [] = refl
take-changed f (suc n) (u ∷ us) = ap (λ l. f u ∷ l) (take-changed f n us)

-- While a line is shut no unit is selected.
none_selected : (n : ℕ) (us : List Unit) → all_fit false us ≡ true → filter (selected_at n) us ≡ []
none_selected n [] e = refl
none_selected n (u ∷ us) e =
    let (first, rest) = and_parts (is_disabled u.state) (all_fit false us) e in
    let later = none_selected n us rest in
    ap (λ d. cond (not d && unit_number u == n) (u ∷ filter (selected_at n) us) (filter (selected_at n) us)) first ∙ later

none_left : (n : ℕ) (us : List Unit) → is_among n (map unit_number us) ≡ false → filter (selected_at n) us ≡ []
none_left n [] e = refl
none_left n (u ∷ us) e =
    let (other, rest) = or_parts (n == unit_number u) (is_among n (map unit_number us)) e in
    let apart : selected_at n u ≡ false = grind (arith, nat_tests) in
    ap (λ t. cond t (u ∷ filter (selected_at n) us) (filter (selected_at n) us)) apart ∙ none_left n us rest

-- While it is live the one unit of a key is.
one_selected : (k : RandomAddress) (us : List Unit) → has_twice (map unit_number us) ≡ false → all_fit true us ≡ true
    → filter (selected_at (random_number k)) us ≡ option_to_list (unit_at us k)
one_selected k [] distinct e = refl
one_selected k (u ∷ us) distinct e =
    let n = random_number k in
    let (once, later) = or_parts (is_among (unit_number u) (map unit_number us)) (has_twice (map unit_number us)) distinct in
    let (first, rest) = and_parts (not (is_disabled u.state)) (all_fit true us) e in
    let more = one_selected k us later rest in
    let here : (t : Bool) → (unit_number u == n) ≡ t
    → cond (true && t) (u ∷ filter (selected_at n) us) (filter (selected_at n) us) ≡ option_to_list (cond t (Some u) (unit_at us k)) =
    elim [
      | true ↦ λ is. ap (λ l. u ∷ l) (none_left n us (ap (λ m. is_among m (map unit_number us)) (sym (eqb-true (unit_number u) n is)) ∙ once))
      | false ↦ λ is. more
    ] in
    ap (λ d. cond (d && unit_number u == n) (u ∷ filter (selected_at n) us) (filter (selected_at n) us)) first
    ∙ here (unit_number u == n) refl

-- The units that tell their address at a key.
pub selected_are : (live : Bool) (k : RandomAddress) (us : List Unit) → has_twice (map unit_number us) ≡ false → all_fit live us ≡ true
    → filter (selected_at (random_number k)) us ≡ cond live (option_to_list (unit_at us k)) []
selected_are true k us distinct e = one_selected k us distinct e
selected_are false k us distinct e = none_selected (random_number k) us e

-- The table once its first n places were lent: what was made of them, and the places behind.
pub lent_changed : (f : Unit → Unit) (n : ℕ) (units lent : List Unit) → lent ≡ map f (take (n - 0) units) → lent ++ post_of 0 (n - 0) units ≡ changed_first f n units
lent_changed f n units lent e = ap (λ l. l ++ drop (n - 0) units) e ∙ ap (λ m. map f (take m units) ++ drop m units) (sub-zero n)

pub lent_same : (n : ℕ) (units lent : List Unit) → lent ≡ take (n - 0) units → lent ++ post_of 0 (n - 0) units ≡ units
lent_same n units lent e = ap (λ l. l ++ drop (n - 0) units) e ∙ take-append-drop (n - 0) units
