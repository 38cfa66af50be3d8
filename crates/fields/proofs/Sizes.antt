-- The bytes of a line are at most half as many as its characters.
use Rattle.std.proofs.Common.{◌≡◌, ℕ, zero, suc, ◌+◌, ◌*◌, ◌≤◌, Bool, true, false, cond, eqb, ltb, List, [], length, drop, is_some, IfSome, Some, None, codes, Option, sym, refl, ap, arith, length-append, length-drop, length-take}
use Rattle.std.proofs.lemmas.Bool.{le-ltb}
use Rattle.std.specs.Option.{option_map}
use Rattle.octets.proofs.Buffers.{take-begun}
use Rattle.text.specs.Digits.{and_then}
use Rattle.text.specs.Hexadecimal.{hex_pairs, bytes_of, hex_bytes, bytes_read, bytes_left}
use Rattle.text.proofs.HexText.{length_bytes}
use Rattle.fields.specs.Fields.{space_at, field_at, last_field, bytes_in, last_bytes, bytes_begun, BytesAt, same_word}

cond_found : {X : Type 0} (b : Bool) (x y : Option X) (P : X → Type 0) → IfSome x P → IfSome y P → IfSome (cond b x y) P
cond_found true x y P p q = p
cond_found false x y P p q = q

found_weaker : {X : Type 0} (o : Option X) (P Q : X → Type 0) → ((x : X) → P x → Q x) → IfSome o P → IfSome o Q
found_weaker (Some x) P Q weaker p = weaker x p
found_weaker None P Q weaker p = tt

then_found : {X Y : Type 0} (o : Option X) (f : X → Option Y) (P : X → Type 0) (Q : Y → Type 0)
    → IfSome o P → ((x : X) → P x → IfSome (f x) Q) → IfSome (and_then o f) Q
then_found (Some x) f P Q p later = later x p
then_found None f P Q p later = tt

field_short : (n : ℕ) (line : List ℕ) → IfSome (field_at n line) (λ f. length f ≤ length line)
field_short zero line = simp length-take (omega arith)
field_short (suc n) line =
    let rest = drop (space_at line + 1) line in
    let shorter : length rest ≤ length line = simp length-drop (omega arith) in
    cond_found (ltb (space_at line) (length line)) (field_at n rest) None (λ f. length f ≤ length line)
    (found_weaker (field_at n rest) (λ f. length f ≤ length rest) (λ f. length f ≤ length line) (λ f h. omega arith) (field_short n rest))
    tt

bytes_short : (text : List ℕ) → IfSome (bytes_in text) (λ bytes. 2 * length bytes ≤ length text)
bytes_short text =
    let P : List ℕ → Type 0 = λ bytes. 2 * length bytes ≤ length text in
    let size = length_bytes text in
    cond_found (same_word text (codes "-")) (Some []) (cond (eqb (length text) 0) None (hex_bytes text)) P (omega arith)
    (cond_found (eqb (length text) 0) None (hex_bytes text) P tt
    (cond_found (hex_pairs text) (Some (bytes_of text)) None P (omega arith) tt))

pub last_short : (n : ℕ) (line : List ℕ) → IfSome (last_bytes n line) (λ bytes. 2 * length bytes ≤ length line)
last_short n line =
    let P : List ℕ → Type 0 = λ f. length f ≤ length line in
    then_found (last_field n line) bytes_in P (λ bytes. 2 * length bytes ≤ length line)
    (cond_found (is_some (field_at (n + 1) line)) None (field_at n line) P tt (field_short n line))
    (λ f h. found_weaker (bytes_in f) (λ bytes. 2 * length bytes ≤ length f) (λ bytes. 2 * length bytes ≤ length line) (λ bytes k. omega arith) (bytes_short f))

fits : (o : Option (List ℕ)) (size : ℕ) (buf : List ℕ) → IfSome o (λ bytes. 2 * length bytes ≤ size) → size ≤ 2 * length buf
    → (bytes_read o buf ≡ option_map length o) × (bytes_left o buf ≡ bytes_begun o buf)
fits (Some bytes) size buf short room =
    let no_more = le-ltb (length buf) (length bytes) (omega arith) in
    (rw no_more, rw no_more)
fits None size buf short room = (refl, refl)

-- So a buffer of half the size serves.
pub last_fits : (n : ℕ) (line buf : List ℕ) → length line ≤ 2 * length buf
    → (bytes_read (last_bytes n line) buf ≡ option_map length (last_bytes n line)) × (bytes_left (last_bytes n line) buf ≡ bytes_begun (last_bytes n line) buf)
last_fits n line buf room = fits (last_bytes n line) (length line) buf (last_short n line) room

-- And what was read is at its beginning.
pub read_bytes : (o : Option (List ℕ)) (r : Option ℕ) (size : ℕ) (buf after : List ℕ) → IfSome o (λ bytes. 2 * length bytes ≤ size) → size ≤ 2 * length buf
    → r ≡ option_map length o
    → after ≡ bytes_begun o buf
    → BytesAt o r after
read_bytes (Some bytes) r size buf after short room answer left =
    rw (answer, left) (simp (length-append, length-drop) (omega arith), ap Some (sym (take-begun buf bytes (length bytes) refl)))
read_bytes None r size buf after short room answer left = rw answer refl
