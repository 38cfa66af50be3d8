-- Lists of ranks.
use Rattle.std.proofs.Common.{◌≡◌, ℕ, suc, ◌<◌, ◌≤◌, Bool, true, false, ◌||◌, eqb, ltb, ◌⊎◌, List, [], ◌∷◌, length, sym, refl, ap, ◌∙◌, inl, inr, arith}
use Rattle.std.proofs.lemmas.Bool.{cond_both, ltb-true, ltb-false, eqb-false, or_parts, ne_eqb, both_ways, cases_order}
use Rattle.std.specs.List.{AllByRecursion}
use Rattle.walk_law.specs.Ranks.{is_in, put_in, AscendsFrom}

pub length-put_in : (j : ℕ) (xs : List ℕ) → length (put_in j xs) ≡ suc (length xs)
unfolding put_in
length-put_in j [] = refl
length-put_in j (x ∷ xs) =
    let ih = length-put_in j xs in
    cond_both (ltb x j) (x ∷ put_in j xs) (j ∷ x ∷ xs) (λ l. length l ≡ suc (suc (length xs))) (λ _. ap suc ih) (λ _. refl)

or_swap : (a b c : Bool) → (a || (b || c)) ≡ (b || (a || c))
or_swap true true c = refl
or_swap true false c = refl
or_swap false true c = refl
or_swap false false c = refl

pub is_in_put_in : (i j : ℕ) (xs : List ℕ) → is_in i (put_in j xs) ≡ (eqb i j || is_in i xs)
unfolding is_in put_in
is_in_put_in i j [] = refl
is_in_put_in i j (x ∷ xs) =
    let ih = is_in_put_in i j xs in
    cond_both (ltb x j) (x ∷ put_in j xs) (j ∷ x ∷ xs) (λ l. is_in i l ≡ (eqb i j || (eqb i x || is_in i xs)))
    (λ _. ap (λ t. eqb i x || t) ih ∙ or_swap (eqb i x) (eqb i j) (is_in i xs))
    (λ _. refl)

pub ascends_put_in : (low j : ℕ) (xs : List ℕ) → AscendsFrom low xs → low ≤ j → is_in j xs ≡ false → AscendsFrom low (put_in j xs)
unfolding is_in put_in
ascends_put_in low j [] asc le out = (le, tt)
ascends_put_in low j (x ∷ xs) (at, asc) le out =
    let apart = or_parts (eqb j x) (is_in j xs) out in
    let differs = eqb-false j x apart.0 in
    cond_both (ltb x j) (x ∷ put_in j xs) (j ∷ x ∷ xs) (AscendsFrom low)
    (λ t. (at, ascends_put_in (suc x) j xs asc (ltb-true x j t) apart.1))
    (λ t. (le, (let above = ltb-false x j t in omega arith, asc)))

pub all_put_in : (P : ℕ → Type 0) (j : ℕ) (xs : List ℕ) → P j → AllByRecursion P xs → AllByRecursion P (put_in j xs)
unfolding put_in
all_put_in P j [] here all = (here, tt)
all_put_in P j (x ∷ xs) here (at, all) =
    cond_both (ltb x j) (x ∷ put_in j xs) (j ∷ x ∷ xs) (AllByRecursion P) (λ _. (at, all_put_in P j xs here all)) (λ _. (here, (at, all)))

-- What is below all of an ascending list is not in it.
pub below_not_in : (low j : ℕ) (xs : List ℕ) → AscendsFrom low xs → j < low → is_in j xs ≡ false
unfolding is_in
below_not_in low j [] asc less = refl
below_not_in low j (x ∷ xs) (at, asc) less =
    let ih = below_not_in (suc x) j xs asc (omega arith) in
    let ne = ne_eqb j x (λ e. omega arith) in
    rw (ne, ih)

in_rest : (x j : ℕ) (xs : List ℕ) → is_in j (x ∷ xs) ≡ true → (j ≡ x → ⊥) → is_in j xs ≡ true
unfolding is_in
in_rest x j xs is ne = rw (ne_eqb j x ne) at is

all_in_rest : (x low : ℕ) (xs ys : List ℕ) → x < low → AscendsFrom low ys → AllByRecursion (λ y. is_in y (x ∷ xs) ≡ true) ys → AllByRecursion (λ y. is_in y xs ≡ true) ys
all_in_rest x low xs [] less asc all = tt
all_in_rest x low xs (y ∷ ys) less (at, asc) (is, all) =
    (in_rest x y xs is (λ e. omega arith), all_in_rest x (suc y) xs ys (omega arith) asc all)

-- An ascending list within another one is no longer.
pub length-within : (low : ℕ) (xs ys : List ℕ) → AscendsFrom low xs → AscendsFrom low ys → AllByRecursion (λ y. is_in y xs ≡ true) ys → length ys ≤ length xs
unfolding is_in
length-within low xs [] asc asc' all = omega arith
length-within low [] (y ∷ ys) asc asc' (is, all) = cc
length-within low (x ∷ xs) (y ∷ ys) (at, asc) (at', asc') (is, all) =
    by_order (λ zs asc'' rest. length-within (suc x) xs zs asc asc'' rest) (cases_order x y)
  where
    by_order : ((zs : List ℕ) → AscendsFrom (suc x) zs → AllByRecursion (λ z. is_in z xs ≡ true) zs → length zs ≤ length xs)
        → (x ≡ y) ⊎ ((x < y) ⊎ (y < x))
        → suc (length ys) ≤ suc (length xs)
    by_order shorter (inl e) =
        let within = shorter ys (rw (sym e) at asc') (all_in_rest x (suc y) xs ys (omega arith) asc' all) in
        omega arith
    by_order shorter (inr (inl less)) =
        let within = shorter (y ∷ ys) (less, asc') (all_in_rest x y xs (y ∷ ys) less (omega arith, asc') (is, all)) in
        omega arith
    by_order shorter (inr (inr less)) =
        absurd (both_ways (is_in y xs) (below_not_in (suc x) y xs asc (omega arith)) (in_rest x y xs is (λ e. omega arith)))
