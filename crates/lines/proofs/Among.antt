-- What a search among numbers tells.
use Rattle.std.proofs.Common.{◌≡◌, ℕ, Bool, ◌||◌, eqb, List, [], ◌∷◌, sym, refl, ap, ◌∙◌, arith}
use Rattle.std.proofs.lemmas.Bool.Decides.{nat_tests, same_from_decides, Decides-by_or, Decides-like, Decides-eqb}
use Rattle.std.proofs.lemmas.List.Elements.{contains_decides}
use Rattle.std.specs.List.{IsAnyAnswer, list_any}
use Rattle.lines.specs.Twice.{is_among, has_twice}

-- What a search through a list tells.
pub among_contains : (n : ℕ) (ms : List ℕ) (r : Bool) → IsAnyAnswer (λ m t. eqb m n ≡ t) ms r → r ≡ is_among n ms
among_contains n ms r found =
    same_from_decides r (is_among n ms) (contains_decides eqb Decides-eqb ms n r found)
    (Decides-by_or (eqb n) (λ m. m ≡ n) (is_among n) (λ m. Decides-like (eqb n m) sym sym (Decides-eqb n m)) refl (λ _ _. refl) ms)

found_among : (n : ℕ) (ms : List ℕ) → list_any (λ m. eqb m n) ms ≡ is_among n ms
found_among n [] = refl
found_among n (m ∷ ms) =
    let turned : eqb m n ≡ eqb n m = grind (arith, nat_tests) in
    λ i. turned i || found_among n ms i

-- The first of the numbers that are left is looked for behind it, and found or not.
pub first_tells : (all left behind : List ℕ) (n : ℕ) (found answer : Bool) → has_twice left ≡ has_twice all → left ≡ n ∷ behind
    → found ≡ list_any (λ m. eqb m n) behind
    → found ≡ answer
    → has_twice all ≡ (answer || has_twice behind)
first_tells all left behind n found answer before is looked told =
    sym before ∙ ap has_twice is ∙ ap (λ t. t || has_twice behind) (sym (found_among n behind) ∙ sym looked ∙ told)
