-- Tables that change: what is found in them, and what holds of all that they hold.
use Rattle.std.specs.Prelude.{◌≡◌, Bool, true, false, cond, List, [], ◌∷◌, map, IfSome, Some, refl}
use Rattle.std.proofs.Common.{ap, ◌∙◌}
use Rattle.std.proofs.lemmas.Bool.{and_parts, and_from}
use Rattle.std.specs.List.{list_all, find}
use Rattle.std.specs.Option.{option_map}

module _ {X : Type 0} (test : X → Bool) where
  -- A change that keeps what the test tells changes what is found.
  pub found_changed : (f : X → X) → ((x : X) → test (f x) ≡ test x) → (xs : List X) → find test (map f xs) ≡ option_map f (find test xs)
  found_changed f keeps [] = refl
  found_changed f keeps (x ∷ xs) =
      let later = found_changed f keeps xs in
      ap (λ t. cond t (Some (f x)) (find test (map f xs))) (keeps x)
      ∙ elim (test x) as
      (λ t. cond t (Some (f x)) (find test (map f xs)) ≡ option_map f (cond t (Some x) (find test xs)))
      [ true ↦ refl | false ↦ later ]

  -- What is found passes.
  pub found_passes : (xs : List X) → IfSome (find test xs) (λ x. test x ≡ true)
  found_passes [] = tt
  found_passes (x ∷ xs) = by (test x) refl (found_passes xs)
    where
      by : (here : Bool) → test x ≡ here → IfSome (find test xs) (λ y. test y ≡ true) → IfSome (cond here (Some x) (find test xs)) (λ y. test y ≡ true)
      by true e later = e
      by false e later = later

  -- What holds of each holds of what is found.
  pub found_keeps : (p : X → Bool) (xs : List X) → list_all p xs ≡ true → IfSome (find test xs) (λ x. p x ≡ true)
  found_keeps p [] all = tt
  found_keeps p (x ∷ xs) all =
      let parts = and_parts (p x) (list_all p xs) all in
      by (test x) parts.0 (found_keeps p xs parts.1)
    where
      by : (here : Bool) → p x ≡ true → IfSome (find test xs) (λ y. p y ≡ true) → IfSome (cond here (Some x) (find test xs)) (λ y. p y ≡ true)
      by true this later = this
      by false this later = later

-- A change that keeps what each has keeps it in all.
pub values_kept : {X Y : Type 0} (value : X → Y) (f : X → X) → ((x : X) → value (f x) ≡ value x) → (xs : List X) → map value (map f xs) ≡ map value xs
values_kept value f keeps [] = refl
values_kept value f keeps (x ∷ xs) = λ i. keeps x i ∷ values_kept value f keeps xs i

-- A test that each passes afterwards, if it passed another before.
pub all_kept : {X : Type 0} (p q : X → Bool) (f : X → X) → ((x : X) → p x ≡ true → q (f x) ≡ true) → (xs : List X) → list_all p xs ≡ true
    → list_all q (map f xs) ≡ true
all_kept p q f keeps [] all = refl
all_kept p q f keeps (x ∷ xs) all =
    let parts = and_parts (p x) (list_all p xs) all in
    and_from (q (f x)) (list_all q (map f xs)) (keeps x parts.0) (all_kept p q f keeps xs parts.1)
