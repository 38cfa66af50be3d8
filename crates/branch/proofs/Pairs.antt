-- Pairs of bytes, taken from a list one after the other.
use Rattle.std.proofs.Common.{◌≡◌, ℕ, zero, suc, ◌+◌, ◌*◌, ◌/◌, ◌^◌, ◌<◌, ◌≤◌, Bool, ◌&&◌, List, [], ◌∷◌, length, get_or, drop, sym, refl, ap, ◌∙◌, add-one, arith, length-drop}
use Rattle.std.specs.List.{list_all}
use Rattle.std.specs.Simd.{first_chunks}
use native.Mathlib.Nat.{pow-le-pow_right, pow-succ'}
use lib.Bits.{bit_and}
use Rattle.std.proofs.lemmas.List.{drop_more}
use Rattle.branch.specs.BranchReply.{pair_set, bits_set, carried_after, carried}

-- The pair at a place, and what is left behind it.
pub drop_pair : (xs : List ℕ) (i : ℕ) → i < length xs / 2
    → drop (2 * i) xs ≡ get_or xs (2 * i) 0 ∷ get_or xs (2 * i + 1) 0 ∷ drop (2 * (i + 1)) xs
drop_pair xs i h =
    let next : 2 * i + 1 + 1 ≡ 2 * (i + 1) = omega arith in
    drop_more xs (2 * i) 0 (omega arith)
    ∙ ap (λ rest. get_or xs (2 * i) 0 ∷ rest) (drop_more xs (2 * i + 1) 0 (omega arith) ∙ ap (λ k. get_or xs (2 * i + 1) 0 ∷ drop k xs) next)

abbrev pub pair_is_set : List ℕ → Bool
pair_is_set pair = pair_set (get_or pair 0 0) (get_or pair 1 0)

-- All pairs have their bits where each has.
pub set_in_chunks : (k : ℕ) (xs : List ℕ) → length xs / 2 ≡ k → list_all pair_is_set (first_chunks 2 k xs) ≡ bits_set xs
set_in_chunks zero [] h = refl
set_in_chunks zero (p ∷ []) h = refl
set_in_chunks zero (p ∷ q ∷ xs) h = absurd (omega arith)
set_in_chunks (suc k) [] h = absurd (omega arith)
set_in_chunks (suc k) (p ∷ []) h = absurd (omega arith)
set_in_chunks (suc k) (p ∷ q ∷ xs) h = ap (λ b. pair_set p q && b) (set_in_chunks k xs (omega arith))

-- The two bytes of a pair, in the list of which it is one.
pub in_chunk : (k : ℕ) (xs : List ℕ) (i j : ℕ) → i < k → k ≤ length xs / 2 → j < 2
    → get_or (get_or (first_chunks 2 k xs) i []) j 0 ≡ get_or xs (2 * i + j) 0
in_chunk zero xs i j h few two = absurd (omega arith)
in_chunk (suc k) [] i j h few two = absurd (omega arith)
in_chunk (suc k) (p ∷ []) i j h few two = absurd (omega arith)
in_chunk (suc k) (p ∷ q ∷ xs) zero zero h few two = refl
in_chunk (suc k) (p ∷ q ∷ xs) zero (suc zero) h few two = refl
in_chunk (suc k) (p ∷ q ∷ xs) zero (suc (suc j)) h few two = absurd (omega arith)
in_chunk (suc k) (p ∷ q ∷ xs) (suc i) j h few two =
    let next : suc (suc (2 * i + j)) ≡ 2 * suc i + j = omega arith in
    in_chunk k xs i j (omega arith) (omega arith) two ∙ ap (λ n. get_or (p ∷ q ∷ xs) n 0) next

-- No pair is left.
pub carried_short : (n : ℕ) (xs : List ℕ) → length xs < 2 → carried_after n xs ≡ n
carried_short n [] h = refl
carried_short n (p ∷ []) h = refl
carried_short n (p ∷ q ∷ xs) h = absurd (omega arith)

pub drop_pairs : (xs : List ℕ) (i : ℕ) → length xs / 2 ≤ i → length (drop (2 * i) xs) < 2
drop_pairs xs i h = simp length-drop (omega arith)

-- One byte more of a number of at most six.
pub carry_fits : (n i b : ℕ) → n < 256 ^ i → i < 6 → b < 256 → (n * 256 + b < 256 ^ (i + 1)) × (n * 256 + b < 2 ^ 48)
carry_fits n i b below few small =
    let h : suc i ≤ 6 = few in
    let most : 256 ^ suc i ≤ 256 ^ 6 = pow-le-pow_right (omega arith) h in
    let more : 256 ^ suc i ≡ 256 * 256 ^ i = pow-succ' 256 i in
    (rw add-one (omega arith), omega arith)

-- What a pair tells of all of them.
module _ (xs : List ℕ) (i : ℕ) (more : i < length xs / 2) where
  pub carried_step : (n : ℕ) → carried_after n (drop (2 * i) xs) ≡ carried xs
      → carried_after (n * 256 + bit_and (get_or xs (2 * i) 0) (get_or xs (2 * i + 1) 0)) (drop (2 * (i + 1)) xs) ≡ carried xs
  carried_step n inv = sym (ap (carried_after n) (drop_pair xs i more)) ∙ inv
