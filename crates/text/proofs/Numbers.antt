-- Numbers that are read digit by digit.
use Rattle.std.proofs.Common.{◌≡◌, ℕ, suc, ◌+◌, ◌*◌, ◌^◌, ◌<◌, ◌≤◌, List, length, get_or, drop, Some, None, Option, sym, ap, ◌∙◌, add-one, arith}
use native.Mathlib.Nat.{pow-le-pow_right, pow-succ'}
use Rattle.std.proofs.lemmas.Nat.{mul-le}
use Rattle.std.proofs.lemmas.List.{at_drop_more}
use Rattle.std.proofs.lemmas.Bool.Decides.{nat_tests}
use Rattle.text.specs.Digits.{digit_of, below_base, digit_in, and_then, digits_after}

-- A digit is below its base.
digit_below : (base c d : ℕ) → Some d ≡ digit_in base c → d < base
unfolding digit_in
digit_below base c d e = from_base (digit_of c) e
  where
    from_base : (found : Option ℕ) → Some d ≡ below_base base found → d < base
    from_base (Some v) e = grind (arith, nat_tests)
    from_base None e = absurd (let z : ◌≡◌ {A = ℕ} 0 1 = cc in omega arith)

-- One digit more of at most sixteen.
pub digit_fits : (base n i d c : ℕ) → base ≤ 16 → n < 16 ^ i → i < 16 → Some d ≡ digit_in base c
    → (n * base + d < 16 ^ (i + 1)) × (n * base + d < 2 ^ 64)
digit_fits base n i d c small below few read =
    let digit = digit_below base c d read in
    let h : suc i ≤ 16 = few in
    let most : 16 ^ suc i ≤ 16 ^ 16 = pow-le-pow_right (omega arith) h in
    let more : 16 ^ suc i ≡ 16 * 16 ^ i = pow-succ' 16 i in
    let times : suc n * base ≤ 16 ^ i * 16 = mul-le (suc n) base (16 ^ i) 16 below small in
    (rw add-one (omega arith), omega arith)

module _ (base n i : ℕ) (text : List ℕ) (more : i < length text) (inv : digits_after base n (drop i text) ≡ digits_after base 0 text) where
  abbrev then : ℕ → Option ℕ
  then d = digits_after base (n * base + d) (drop (i + 1) text)

  step : and_then (digit_in base (get_or text i 0)) then ≡ digits_after base 0 text
  step = sym (at_drop_more (digits_after base n) text i 0 more) ∙ inv

  pub digit_some : (d : ℕ) → Some d ≡ digit_in base (get_or text i 0) → digits_after base (n * base + d) (drop (i + 1) text) ≡ digits_after base 0 text
  digit_some d e = ap (λ r. and_then r then) e ∙ step

-- Seven digits fit 32 bits.
pub seven_fit : (n size : ℕ) → n < 16 ^ size → size ≤ 7 → n < 2 ^ 32
seven_fit n size below few = let most : 16 ^ size ≤ 16 ^ 7 = pow-le-pow_right (omega arith) few in omega arith
