-- A byte and the pair that carries it, by a test of every byte that antt computes.
use Rattle.std.proofs.Common.{◌≡◌, ℕ, zero, suc, ◌<◌, Bool, true, false, ◌&&◌, eqb, refl, subst}
use lib.Bits.{bit_and, bit_or}
use Rattle.std.proofs.lemmas.Bool.{and_parts, eqb-true}
use Rattle.std.proofs.lemmas.Bool.Decides.{Decides-below_and}
use Rattle.branch.specs.BranchReply.{pair_set}

-- A test that passes at every number below a bound.
every : (ℕ → Bool) → ℕ → Bool
every t zero = true
every t (suc n) = t n && every t n

at_each : (t : ℕ → Bool) (n : ℕ) → every t n ≡ true → (k : ℕ) → k < n → t k ≡ true
unfolding every
at_each t n = (Decides-below_and t (λ k. t k ≡ true) (every t) (λ k. (λ e. e, λ e. e)) refl (λ k. refl) n).0

carries : ℕ → Bool
carries b = eqb (bit_and (bit_or b 0xAA) (bit_or b 0x55)) b && pair_set (bit_or b 0xAA) (bit_or b 0x55)

carries_each : every carries 256 ≡ true
unfolding every carries
carries_each = refl

-- A byte is carried by its pair, and the pair has its bits.
pub byte_carried : (b : ℕ) → b < 256
    → (bit_and (bit_or b 0xAA) (bit_or b 0x55) ≡ b) × (pair_set (bit_or b 0xAA) (bit_or b 0x55) ≡ true)
unfolding carries
byte_carried b small =
    let both = and_parts _ _ (at_each carries 256 carries_each b small) in
    (eqb-true _ _ both.0, both.1)

-- The second only where the first holds: it is not computed elsewhere.
abbrev where_set : Bool → (Unit {0} → Bool) → Bool
where_set true test = test tt
where_set false test = true

-- q with its bits, beside p.
back : ℕ → ℕ → Bool
back p q =
    where_set (eqb (bit_and q 0x55) 0x55) (λ _. eqb (bit_or (bit_and p q) 0xAA) p && eqb (bit_or (bit_and p q) 0x55) q)

backs : ℕ → Bool
backs p = where_set (eqb (bit_and p 0xAA) 0xAA) (λ _. every (back p) 256)

backs_each : every backs 256 ≡ true
unfolding every backs back
backs_each = refl

-- A pair with its bits is that of the byte that it carries.
pub pair_back : (p q : ℕ) → p < 256 → q < 256 → pair_set p q ≡ true
    → (bit_or (bit_and p q) 0xAA ≡ p) × (bit_or (bit_and p q) 0x55 ≡ q)
unfolding backs back
pair_back p q ps qs set =
    let bits = and_parts (eqb (bit_and p 0xAA) 0xAA) (eqb (bit_and q 0x55) 0x55) set in
    let at_p = subst (λ t. where_set t (λ _. every (back p) 256) ≡ true) bits.0 (at_each backs 256 backs_each p ps) in
    let pair = eqb (bit_or (bit_and p q) 0xAA) p && eqb (bit_or (bit_and p q) 0x55) q in
    let at-q = subst (λ t. where_set t (λ _. pair) ≡ true) bits.1 (at_each (back p) 256 at_p q qs) in
    let both = and_parts (eqb (bit_or (bit_and p q) 0xAA) p) (eqb (bit_or (bit_and p q) 0x55) q) at-q in
    (eqb-true _ _ both.0, eqb-true _ _ both.1)
