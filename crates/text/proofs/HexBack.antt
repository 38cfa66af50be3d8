-- The text of bytes is read as those bytes.
use Rattle.std.proofs.Common.{◌≡◌, ℕ, ◌+◌, ◌*◌, ◌/◌, ◌%◌, ◌<◌, true, List, [], ◌∷◌, is_some, Some, unwrap_or, refl, ap, ◌∙◌, ap₂, arith}
use Rattle.std.proofs.lemmas.Bool.{and_from, eq-eqb}
use Rattle.std.proofs.lemmas.Bool.Decides.{nat_tests}
use Rattle.std.specs.List.{AllByRecursion}
use Rattle.text.specs.Digits.{digit_of, digit_text}
use Rattle.text.specs.Hexadecimal.{hex_text, all_hex, byte_of, bytes_of, hex_pairs, hex_bytes}
use Rattle.text.proofs.HexText.{length-hex}

digit_back : (d : ℕ) → d < 16 → digit_of (digit_text d) ≡ Some d
digit_back d small = grind (arith, nat_tests)

all_digits : (bytes : List ℕ) → AllByRecursion (λ b. b < 256) bytes → all_hex (hex_text bytes) ≡ true
all_digits [] small = refl
all_digits (b ∷ bytes) (s, small) =
    and_from _ _ (ap is_some (digit_back (b / 16) (omega arith)))
    (and_from _ _ (ap is_some (digit_back (b % 16) (omega arith))) (all_digits bytes small))

byte_back : (b : ℕ) → b < 256 → byte_of (digit_text (b / 16)) (digit_text (b % 16)) ≡ b
unfolding byte_of
byte_back b small =
    let high = ap (λ r. unwrap_or r 0) (digit_back (b / 16) (omega arith)) in
    let low = ap (λ r. unwrap_or r 0) (digit_back (b % 16) (omega arith)) in
    ap₂ (λ h l. h * 16 + l) high low ∙ omega arith

same_bytes : (bytes : List ℕ) → AllByRecursion (λ b. b < 256) bytes → bytes_of (hex_text bytes) ≡ bytes
same_bytes [] small = refl
same_bytes (b ∷ bytes) (s, small) = ap₂ ◌∷◌ (byte_back b s) (same_bytes bytes small)

pub hex_reads_back : (bytes : List ℕ) → AllByRecursion (λ b. b < 256) bytes → hex_bytes (hex_text bytes) ≡ Some bytes
unfolding hex_pairs
hex_reads_back bytes small =
    let size = length-hex bytes in
    let pairs : hex_pairs (hex_text bytes) ≡ true = and_from _ _ (eq-eqb _ _ (omega arith)) (all_digits bytes small) in
    rw pairs (ap Some (same_bytes bytes small))
