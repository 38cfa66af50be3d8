-- A loop over units that changes each of them and gathers what they give.
use Rattle.std.proofs.Common.{◌≡◌, ℕ, ◌+◌, ◌<◌, List, [], ◌++◌, map, length, get_or, take, drop, sym, ap, ◌∙◌, arith}
use Rattle.std.specs.List.{flat_map}
use Rattle.std.proofs.lemmas.List.{places, length-map, length-take-le, take_more, flat_map_more}

-- The element at the place has not been changed yet.
pub not_changed_yet : {X : Type 0} (f : X → X) (xs ys : List X) (i : ℕ) (x : X) → i < length xs
    → ys ≡ map f (take i xs) ++ drop i xs
    → x ≡ get_or ys i x
    → x ≡ get_or xs i x
not_changed_yet f xs ys i x within changed read =
    let front : length (map f (take i xs)) ≡ i = length-map (take i xs) f ∙ length-take-le i xs (omega arith) in
    read ∙ ap (λ l. get_or l i x) changed ∙ grind (arith, places)

-- What one more element gives comes behind.
pub gathered_more : {X A : Type 0} (give : X → List A) (xs : List X) (i : ℕ) (x : X) → i < length xs
    → x ≡ get_or xs i x
    → flat_map give (take i xs) ++ give x ≡ flat_map give (take (i + 1) xs)
gathered_more give xs i x within read =
    ap (λ y. flat_map give (take i xs) ++ give y) read
    ∙ flat_map_more give [] (take i xs) (get_or xs i x)
    ∙ ap (flat_map give) (sym (take_more xs i x within))
