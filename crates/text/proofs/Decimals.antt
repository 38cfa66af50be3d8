-- Decimal numbers, written digit by digit.
use Rattle.std.proofs.Common.{◌≡◌, ℕ, ◌+◌, ◌/◌, ◌%◌, ◌^◌, ◌<◌, ◌≤◌, [], ◌∷◌, ◌++◌, length, decimal, sym, ap, ◌∙◌, arith, length-append}
use Rattle.std.proofs.lemmas.Fmt.{decimal_digit, decimal_step}
use Rattle.std.proofs.lemmas.Bool.Decides.{nat_tests}
use Rattle.text.specs.Digits.{digit_text}

last_digit : (n : ℕ) → digit_text (n % 10) ≡ 48 + n % 10
last_digit n = grind (arith, nat_tests)

pub one_digit : (n : ℕ) → n < 10 → decimal n ≡ digit_text (n % 10) ∷ []
one_digit n small =
    let same : n % 10 ≡ n = omega arith in
    decimal_digit n small ∙ ap (λ d. d ∷ []) (sym (last_digit n ∙ ap (λ m. 48 + m) same))

pub more_digits : (n : ℕ) → 10 ≤ n → n < 2 ^ 64 → decimal n ≡ decimal (n / 10) ++ (digit_text (n % 10) ∷ [])
more_digits n large fits = decimal_step n large fits ∙ ap (λ d. decimal (n / 10) ++ (d ∷ [])) (sym (last_digit n))

pub length_more : (n : ℕ) → 10 ≤ n → n < 2 ^ 64 → length (decimal n) ≡ length (decimal (n / 10)) + 1
length_more n large fits = ap length (more_digits n large fits) ∙ length-append (decimal (n / 10)) (digit_text (n % 10) ∷ [])
