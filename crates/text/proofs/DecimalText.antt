-- What is read as a number is its text, and the text of a number is read as that number.
use Rattle.std.proofs.Common.{◌≡◌, ℕ, ◌+◌, ◌-◌, ◌*◌, ◌^◌, ◌<◌, ◌≤◌, Bool, true, false, cond, ◌&&◌, ◌⊎◌, List, [], ◌∷◌, length, get_or, IfSome, Some, None, decimal, Option, sym, refl, ap, ◌∙◌, inl, inr, ⊎_elim, arith, rules}
use Rattle.std.proofs.lemmas.Fmt.{decimal_digit, decimal-digits_value, digits_decimal, digits_value-decimal, length-decimal-le, decimal_nonempty, first_decimal}
use Rattle.std.proofs.lemmas.Str.Parse.{IsNumeralModel, numerals_by_fold, tells_all_ascii_digits, digits_value_short}
use Rattle.std.proofs.lemmas.Bool.{cases_lt}
use Rattle.std.proofs.lemmas.Bool.Decides.{nat_tests}
use Rattle.std.specs.Char.{is_ascii_digit}
use Rattle.std.specs.Str.{all_ascii_digits}
use Rattle.text.specs.Decimal.{fits_decimal, decimal_at}
use Rattle.text.specs.Digits.{digit_in, and_then, digits_after}

abbrev read_on : ℕ → List ℕ → ℕ
read_on n [] = n
read_on n (c ∷ text) = read_on (n * 10 + (c - 48)) text

own : IsNumeralModel (λ ds. all_ascii_digits ds ≡ true) (read_on 0)
own = numerals_by_fold _ tells_all_ascii_digits read_on (search rules)

ten_digit : (c : ℕ) → digit_in 10 c ≡ cond (is_ascii_digit c) (Some (c - 48)) None
unfolding digit_in
ten_digit c = grind (arith, nat_tests)

one_more : (first rest : Bool) (v r : ℕ) (then : ℕ → Option ℕ) → then v ≡ cond rest (Some r) None
    → and_then (cond first (Some v) None) then ≡ cond (first && rest) (Some r) None
one_more true rest v r then e = e
one_more false rest v r then e = refl

-- Digits are read if all are decimal digits.
digits_are : (n : ℕ) (text : List ℕ) → digits_after 10 n text ≡ cond (all_ascii_digits text) (Some (read_on n text)) None
digits_are n [] = refl
digits_are n (c ∷ text) =
    let then : ℕ → Option ℕ = λ d. digits_after 10 (n * 10 + d) text in
    ap (λ r. and_then r then) (ten_digit c)
    ∙ one_more (is_ascii_digit c) (all_ascii_digits text) (c - 48) (read_on (n * 10 + (c - 48)) text) then (digits_are (n * 10 + (c - 48)) text)

decimal_is : (text : List ℕ) → decimal_at text ≡ cond (fits_decimal text) (cond (all_ascii_digits text) (Some (read_on 0 text)) None) None
decimal_is text = ap (λ r. cond (fits_decimal text) r None) (digits_are 0 text)

both_hold : (fits all : Bool) (v n : ℕ) → cond fits (cond all (Some v) None) None ≡ Some n → (fits ≡ true) × (all ≡ true) × (v ≡ n)
both_hold fits all v n e = grind arith

-- What the shape of a text tells.
shape_tells : (text : List ℕ) → fits_decimal text ≡ true → (0 < length text) × (length text ≤ 7) × (get_or text 0 0 ≡ 48 → length text ≡ 1)
shape_tells text e = (grind (arith, nat_tests), grind (arith, nat_tests), λ zero. grind (arith, nat_tests))

shape_from : (text : List ℕ) → 0 < length text → length text ≤ 7 → (48 < get_or text 0 0) ⊎ (length text ≡ 1) → fits_decimal text ≡ true
shape_from text some few lead = grind (arith, nat_tests)

pub text_of_number : (text : List ℕ) (n : ℕ) → decimal_at text ≡ Some n → text ≡ decimal n
text_of_number text n e =
    let h = both_hold (fits_decimal text) (all_ascii_digits text) (read_on 0 text) n (sym (decimal_is text) ∙ e) in
    let shape = shape_tells text h.0 in
    let small = digits_value_short own text 7 h.1 shape.1 in
    sym (decimal-digits_value own text h.1 shape.0 shape.2 (omega arith)) ∙ ap decimal h.2

lead_of : (n : ℕ) → n < 2 ^ 64 → (48 < get_or (decimal n) 0 0) ⊎ (length (decimal n) ≡ 1)
lead_of n fits = ⊎_elim (λ some. inl (first_decimal n some fits)) (λ none. inr (ap length (decimal_digit n (omega arith)))) (cases_lt 0 n)

pub number_of_text : (n : ℕ) → n < 10 ^ 7 → decimal_at (decimal n) ≡ Some n
number_of_text n small =
    let fits : n < 2 ^ 64 = omega arith in
    let shape = shape_from (decimal n) (decimal_nonempty n fits) (length-decimal-le 7 n (omega arith) small fits) (lead_of n fits) in
    decimal_is (decimal n) ∙ rw (shape, digits_decimal own n fits) (ap Some (digits_value-decimal own n fits))

-- The same of what was read.
pub found_text : (text : List ℕ) (r : Option ℕ) → r ≡ decimal_at text → IfSome r (λ n. text ≡ decimal n)
found_text text (Some n) e = text_of_number text n (sym e)
found_text text None e = tt
