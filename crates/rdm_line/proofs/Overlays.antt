-- Bytes that overlap, one byte after the other.
use Rattle.std.proofs.Common.{◌≡◌, ℕ, zero, suc, ◌+◌, ◌<◌, min, List, [], ◌∷◌, ◌++◌, length, get_or, take, set, sym, refl, ap, ◌∙◌, ap₂, add-one, arith}
use Rattle.std.proofs.lemmas.List.{take_more_set}
use Rattle.branch.specs.Overlaid.{overlaid}

module _ (join : ℕ → ℕ → ℕ) where
  overlaid_suc : (xs ys : List ℕ) (i : ℕ) → i < length xs → i < length ys
      → overlaid join (take (suc i) xs) (take (suc i) ys)
      ≡ overlaid join (take i xs) (take i ys) ++ (join (get_or xs i 0) (get_or ys i 0) ∷ [])
  overlaid_suc [] ys i p q = absurd (omega arith)
  overlaid_suc (x ∷ xs) [] i p q = absurd (omega arith)
  overlaid_suc (x ∷ xs) (y ∷ ys) zero p q = refl
  overlaid_suc (x ∷ xs) (y ∷ ys) (suc i) p q = ap (λ t. join x y ∷ t) (overlaid_suc xs ys i (omega arith) (omega arith))

  -- The byte at i is written.
  pub overlaid_more : (out xs ys : List ℕ) (i byte : ℕ) → i < length out → i < length xs → i < length ys
      → byte ≡ join (get_or xs i 0) (get_or ys i 0)
      → take i out ≡ overlaid join (take i xs) (take i ys)
      → take (i + 1) (set out i byte) ≡ overlaid join (take (i + 1) xs) (take (i + 1) ys)
  overlaid_more out xs ys i byte o p q is e =
      take_more_set out i byte o
      ∙ ap₂ (λ t x. t ++ (x ∷ [])) e is
      ∙ rw (add-one, overlaid_suc xs ys i p q)

  -- Bytes overlap as long as both last.
  overlaid_both : (xs ys : List ℕ) (m n k : ℕ) → k ≡ min m n
      → overlaid join (take k xs) (take k ys) ≡ overlaid join (take m xs) (take n ys)
  overlaid_both xs ys zero n zero e = refl
  overlaid_both xs ys zero n (suc k) e = absurd (omega arith)
  overlaid_both [] ys (suc m) zero zero e = refl
  overlaid_both (x ∷ xs) ys (suc m) zero zero e = refl
  overlaid_both xs ys (suc m) zero (suc k) e = absurd (omega arith)
  overlaid_both xs ys (suc m) (suc n) zero e = absurd (omega arith)
  overlaid_both [] ys (suc m) (suc n) (suc k) e = refl
  overlaid_both (x ∷ xs) [] (suc m) (suc n) (suc k) e = refl
  overlaid_both (x ∷ xs) (y ∷ ys) (suc m) (suc n) (suc k) e =
      ap (λ t. join x y ∷ t) (overlaid_both xs ys m n k (omega arith))

  -- Every byte is written.
  pub overlaid_all : (out xs ys : List ℕ) (m n k i : ℕ) → k ≡ min m n → i ≡ k
      → take i out ≡ overlaid join (take i xs) (take i ys)
      → take k out ≡ overlaid join (take m xs) (take n ys)
  overlaid_all out xs ys m n k i least end e =
      ap (λ j. take j out) (sym end) ∙ e ∙ overlaid_both xs ys m n i (end ∙ least)
