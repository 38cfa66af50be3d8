-- Bytes, the number that they write, and the pairs that carry them.
use Rattle.std.proofs.Common.{◌≡◌, ℕ, zero, suc, ◌+◌, ◌-◌, ◌*◌, ◌/◌, ◌%◌, ◌^◌, ◌<◌, Bool, true, false, ◌&&◌, List, [], ◌∷◌, ◌++◌, length, sym, refl, ap, ◌∙◌, arith}
use lib.Bits.{bit_and, and_le_l}
use Rattle.std.proofs.lemmas.Bool.{and_parts, and_from}
use Rattle.std.specs.List.{AllByRecursion}
use Rattle.octets.specs.Bytes.{two_bytes, six_bytes}
use Rattle.branch.specs.BranchReply.{pairs_of, pair_set, bits_set, carried_after}
use Rattle.branch.proofs.PairBits.{byte_carried, pair_back}

abbrev pub Byte : ℕ → Type 0
Byte b = b < 256

-- The number that bytes write, after those before.
abbrev pub written_after : ℕ → List ℕ → ℕ
written_after n [] = n
written_after n (b ∷ bytes) = written_after (n * 256 + b) bytes

pub carried_pairs : (n : ℕ) (bytes : List ℕ) → AllByRecursion Byte bytes → carried_after n (pairs_of bytes) ≡ written_after n bytes
carried_pairs n [] small = refl
carried_pairs n (b ∷ bytes) (s, small) = rw (byte_carried b s).0 (carried_pairs (n * 256 + b) bytes small)

pub bits_set_pairs : (bytes : List ℕ) → AllByRecursion Byte bytes → bits_set (pairs_of bytes) ≡ true
bits_set_pairs [] small = refl
bits_set_pairs (b ∷ bytes) (s, small) = and_from _ _ (byte_carried b s).1 (bits_set_pairs bytes small)

pub small_six : (n : ℕ) → AllByRecursion Byte (six_bytes n)
small_six n = (omega arith, (omega arith, (omega arith, (omega arith, (omega arith, (omega arith, tt))))))

pub small_two : (n : ℕ) → AllByRecursion Byte (two_bytes n)
small_two n = (omega arith, (omega arith, tt))

pub two_written : (n : ℕ) → n < 2 ^ 16 → written_after 0 (two_bytes n) ≡ n
two_written n small = omega arith

pub six_written : (n : ℕ) → n < 2 ^ 48 - 1 → written_after 0 (six_bytes n) ≡ n
six_written n key = omega arith

-- The bytes that pairs carry.
abbrev pub bytes_in : List ℕ → List ℕ
bytes_in [] = []
bytes_in (p ∷ []) = []
bytes_in (p ∷ q ∷ pairs) = bit_and p q ∷ bytes_in pairs

pub carried_in : (n : ℕ) (pairs : List ℕ) → carried_after n pairs ≡ written_after n (bytes_in pairs)
carried_in n [] = refl
carried_in n (p ∷ []) = refl
carried_in n (p ∷ q ∷ pairs) = carried_in (n * 256 + bit_and p q) pairs

-- Pairs with their bits are those of the bytes that they carry.
pub pairs_back : (m : ℕ) (pairs : List ℕ) → length pairs ≡ 2 * m → AllByRecursion Byte pairs → bits_set pairs ≡ true
    → (pairs ≡ pairs_of (bytes_in pairs)) × (length (bytes_in pairs) ≡ m) × AllByRecursion Byte (bytes_in pairs)
pairs_back m [] long small set = (refl, omega arith, tt)
pairs_back m (p ∷ []) long small set = absurd (omega arith)
pairs_back zero (p ∷ q ∷ pairs) long small set = absurd (omega arith)
pairs_back (suc m) (p ∷ q ∷ pairs) long (sp, (sq, small)) set =
    let both = and_parts (pair_set p q) (bits_set pairs) set in
    let here = pair_back p q sp sq both.0 in
    let ih = pairs_back m pairs (omega arith) small both.1 in
    (λ i. sym here.0 i ∷ sym here.1 i ∷ ih.0 i, ap suc ih.1, (omega (arith, and_le_l p q), ih.2))

-- Two or six bytes are those of the number that they write.
pub two_back : (n : ℕ) (bytes : List ℕ) → length bytes ≡ 2 → AllByRecursion Byte bytes → written_after 0 bytes ≡ n → two_bytes n ≡ bytes
two_back n [] long small is = absurd (omega arith)
two_back n (a ∷ []) long small is = absurd (omega arith)
two_back n (a ∷ b ∷ []) long (sa, (sb, _)) is =
    let p : n / 256 % 256 ≡ a = omega arith in
    let q : n % 256 ≡ b = omega arith in
    λ i. p i ∷ q i ∷ []
two_back n (a ∷ b ∷ c ∷ more) long small is = absurd (omega arith)

pub six_back : (n : ℕ) (bytes : List ℕ) → length bytes ≡ 6 → AllByRecursion Byte bytes → written_after 0 bytes ≡ n → six_bytes n ≡ bytes
six_back n [] long small is = absurd (omega arith)
six_back n (a ∷ []) long small is = absurd (omega arith)
six_back n (a ∷ b ∷ []) long small is = absurd (omega arith)
six_back n (a ∷ b ∷ c ∷ []) long small is = absurd (omega arith)
six_back n (a ∷ b ∷ c ∷ d ∷ []) long small is = absurd (omega arith)
six_back n (a ∷ b ∷ c ∷ d ∷ e ∷ []) long small is = absurd (omega arith)
six_back n (a ∷ b ∷ c ∷ d ∷ e ∷ f ∷ []) long (sa, (sb, (sc, (sd, (se, (sf, _)))))) is =
    let pa : n / 2 ^ 40 % 256 ≡ a = omega arith in
    let pb : n / 2 ^ 32 % 256 ≡ b = omega arith in
    let pc : n / 2 ^ 24 % 256 ≡ c = omega arith in
    let pd : n / 2 ^ 16 % 256 ≡ d = omega arith in
    let pe : n / 2 ^ 8 % 256 ≡ e = omega arith in
    let pf : n % 256 ≡ f = omega arith in
    λ i. pa i ∷ pb i ∷ pc i ∷ pd i ∷ pe i ∷ pf i ∷ []
six_back n (a ∷ b ∷ c ∷ d ∷ e ∷ f ∷ g ∷ more) long small is = absurd (omega arith)

and_assoc : (a b c : Bool) → (a && (b && c)) ≡ ((a && b) && c)
and_assoc true b c = refl
and_assoc false b c = refl

pub bits_set_append : (m : ℕ) (xs ys : List ℕ) → length xs ≡ 2 * m → bits_set (xs ++ ys) ≡ (bits_set xs && bits_set ys)
bits_set_append m [] ys long = refl
bits_set_append m (p ∷ []) ys long = absurd (omega arith)
bits_set_append zero (p ∷ q ∷ xs) ys long = absurd (omega arith)
bits_set_append (suc m) (p ∷ q ∷ xs) ys long =
    ap (λ b. pair_set p q && b) (bits_set_append m xs ys (omega arith)) ∙ and_assoc (pair_set p q) (bits_set xs) (bits_set ys)
