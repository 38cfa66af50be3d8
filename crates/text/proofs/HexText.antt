-- Hexadecimal text, written and read pair by pair.
use Rattle.std.proofs.Common.{◌≡◌, ℕ, zero, suc, ◌+◌, ◌*◌, ◌/◌, ◌%◌, ◌<◌, ◌≤◌, List, [], ◌∷◌, ◌++◌, length, get_or, take, sym, refl, ap, ◌∙◌, ap₂, arith}
use Rattle.std.proofs.lemmas.List.{flat_map_more, take_more, length-take-le}
use Rattle.std.specs.Simd.{first_chunks}
use Rattle.octets.specs.Buffer.{put_at, begun}
use Rattle.octets.proofs.Buffers.{put-put, put_begun}
use Rattle.text.specs.Digits.{digit_text}
use Rattle.text.specs.Hexadecimal.{byte_text, hex_text, byte_of, bytes_of}

pub length-hex : (bytes : List ℕ) → length (hex_text bytes) ≡ 2 * length bytes
length-hex [] = refl
length-hex (b ∷ bytes) = let ih = length-hex bytes in omega arith

-- One byte more.
pub hex_next : (bytes : List ℕ) (i high low : ℕ) → i < length bytes
    → high ≡ digit_text (get_or bytes i 0 / 16)
    → low ≡ digit_text (get_or bytes i 0 % 16)
    → hex_text (take i bytes) ++ (high ∷ low ∷ []) ≡ hex_text (take (i + 1) bytes)
hex_next bytes i high low more first second =
    ap₂ (λ h l. hex_text (take i bytes) ++ (h ∷ l ∷ [])) first second
    ∙ flat_map_more byte_text [] (take i bytes) (get_or bytes i 0)
    ∙ ap hex_text (sym (take_more bytes i 0 more))

-- One byte more, put into a buffer behind those so far.
pub hex_more : (buf bytes b0 b1 : List ℕ) (at i end : ℕ)
    → i < length bytes
    → at + 2 * length bytes ≤ length buf
    → end ≡ at + 2 * i
    → b0 ≡ put_at buf at (hex_text (take i bytes))
    → b1 ≡ put_at b0 end (byte_text (get_or bytes i 0))
    → b1 ≡ put_at buf at (hex_text (take (i + 1) bytes))
hex_more buf bytes b0 b1 at i end more room is p0 p1 =
    let x = get_or bytes i 0 in
    let size = length-hex (take i bytes) in
    let few = length-take-le i bytes (omega arith) in
    p1
    ∙ ap (λ b. put_at b end (byte_text x)) p0
    ∙ put-put buf (hex_text (take i bytes)) (byte_text x) at end (omega arith) (omega arith)
    ∙ ap (put_at buf at) (hex_next bytes i _ _ more refl refl)

pub length_bytes : (text : List ℕ) → length (bytes_of text) ≡ length text / 2
length_bytes [] = refl
length_bytes (a ∷ []) = refl
length_bytes (a ∷ b ∷ text) = let ih = length_bytes text in omega arith

-- The byte of a pair.
chunk_byte : (k : ℕ) (text : List ℕ) (i : ℕ) → i < k → k ≤ length text / 2
    → byte_of (get_or (get_or (first_chunks 2 k text) i []) 0 0) (get_or (get_or (first_chunks 2 k text) i []) 1 0) ≡ get_or (bytes_of text) i 0
chunk_byte zero text i h few = absurd (omega arith)
chunk_byte (suc k) [] i h few = absurd (omega arith)
chunk_byte (suc k) (a ∷ []) i h few = absurd (omega arith)
chunk_byte (suc k) (a ∷ b ∷ text) zero h few = refl
chunk_byte (suc k) (a ∷ b ∷ text) (suc i) h few = chunk_byte k text i (omega arith) (omega arith)

-- One byte more.
byte_next : (text : List ℕ) (i x : ℕ) → i < length text / 2 → x ≡ get_or (bytes_of text) i 0 → take i (bytes_of text) ++ (x ∷ []) ≡ take (i + 1) (bytes_of text)
byte_next text i x more here =
    let size = length_bytes text in
    ap (λ y. take i (bytes_of text) ++ (y ∷ [])) here ∙ sym (take_more (bytes_of text) i 0 (omega arith))

-- One pair more.
pub pair_next : (text : List ℕ) (pairs : List (List ℕ)) (i x : ℕ) → pairs ≡ first_chunks 2 (length text / 2) text → i < length text / 2
    → x ≡ byte_of (get_or (get_or pairs i []) 0 0) (get_or (get_or pairs i []) 1 0)
    → take i (bytes_of text) ++ (x ∷ []) ≡ take (i + 1) (bytes_of text)
pair_next text pairs i x are more is =
    byte_next text i x more
    (is
    ∙ ap (λ ps. byte_of (get_or (get_or ps i []) 0 0) (get_or (get_or ps i []) 1 0)) are
    ∙ chunk_byte (length text / 2) text i more (omega arith))

pub get_or-bytes : (text : List ℕ) (i : ℕ) → i < length text / 2 → get_or (bytes_of text) i 0 ≡ byte_of (get_or text (2 * i) 0) (get_or text (2 * i + 1) 0)
get_or-bytes [] i h = absurd (omega arith)
get_or-bytes (a ∷ []) i h = absurd (omega arith)
get_or-bytes (a ∷ b ∷ text) zero h = refl
get_or-bytes (a ∷ b ∷ text) (suc i) h =
    let even : 2 * suc i ≡ suc (suc (2 * i)) = omega arith in
    let odd : 2 * suc i + 1 ≡ suc (suc (2 * i + 1)) = omega arith in
    let at : ℕ → ℕ = λ k. get_or (a ∷ b ∷ text) k 0 in
    get_or-bytes text i (omega arith) ∙ ap₂ byte_of (sym (ap at even)) (sym (ap at odd))

-- The byte of one pair more, put into a buffer behind those so far.
pub pair_more : (buf text b0 b1 : List ℕ) (i x : ℕ)
    → i < length text / 2
    → b0 ≡ begun buf (take i (bytes_of text))
    → x ≡ byte_of (get_or text (2 * i) 0) (get_or text (2 * i + 1) 0)
    → b1 ≡ put_at b0 i (x ∷ [])
    → b1 ≡ begun buf (take (i + 1) (bytes_of text))
pair_more buf text b0 b1 i x more p0 is p1 =
    let size = length_bytes text in
    p1
    ∙ ap (λ b. put_at b i (x ∷ [])) p0
    ∙ put_begun buf (take i (bytes_of text)) (x ∷ []) i (length-take-le i (bytes_of text) (omega arith))
    ∙ ap (begun buf) (byte_next text i x more (is ∙ sym (get_or-bytes text i more)))
