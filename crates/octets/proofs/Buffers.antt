-- Buffers that are written part after part.
use Rattle.std.proofs.Common.{◌≡◌, ℕ, ◌+◌, ◌≤◌, List, ◌++◌, length, take, drop, sym, ap, ◌∙◌, append_assoc, zero-add, arith, length-append}
use Rattle.std.proofs.lemmas.List.{take_at, length-take-le, drop-drop, drop_at}
use Rattle.octets.specs.Buffer.{put_at, begun}

-- A part put right behind what is written.
pub put_begun : (buf written part : List ℕ) (n : ℕ) → length written ≡ n → put_at (begun buf written) n part ≡ begun buf (written ++ part)
put_begun buf written part n e =
    let rest = drop (length written) buf in
    let m = length part in
    let behind : drop (n + m) (written ++ rest) ≡ drop (length (written ++ part)) buf =
    sym (drop-drop m n (written ++ rest))
    ∙ ap (drop m) (drop_at written rest n e)
    ∙ drop-drop m (length written) buf
    ∙ ap (λ k. drop k buf) (sym (length-append written part)) in
    rw (take_at written rest n e, behind, append_assoc)

-- What is written can be read.
pub take-begun : (buf written : List ℕ) (n : ℕ) → length written ≡ n → take n (begun buf written) ≡ written
take-begun buf written n e = take_at written (drop (length written) buf) n e

-- A part put behind another part.
pub put-put : (buf a b : List ℕ) (at n : ℕ) → at ≤ length buf → at + length a ≡ n → put_at (put_at buf at a) n b ≡ put_at buf at (a ++ b)
put-put buf a b at n within e =
    let s = take at buf in
    let rest = drop (at + length a) buf in
    let begin : length s ≡ at = length-take-le at buf within in
    let long : length (s ++ a) ≡ n = simp length-append (omega arith) in
    let whole : s ++ (a ++ rest) ≡ (s ++ a) ++ rest = sym (append_assoc s a rest) in
    let front : take n (s ++ (a ++ rest)) ≡ s ++ a = ap (take n) whole ∙ take_at (s ++ a) rest n long in
    let size : at + length a + length b ≡ at + length (a ++ b) = simp length-append (omega arith) in
    let behind : drop (n + length b) (s ++ (a ++ rest)) ≡ drop (at + length (a ++ b)) buf =
    sym (drop-drop (length b) n (s ++ (a ++ rest)))
    ∙ ap (drop (length b)) (ap (drop n) whole ∙ drop_at (s ++ a) rest n long)
    ∙ drop-drop (length b) (at + length a) buf
    ∙ ap (λ k. drop k buf) size in
    rw (front, behind, append_assoc s a (b ++ drop (at + length (a ++ b)) buf), append_assoc a b (drop (at + length (a ++ b)) buf))

-- A text put at the beginning.
pub put_at_start : (buf text : List ℕ) → put_at buf 0 text ≡ begun buf text
put_at_start buf text = ap (λ n. text ++ drop n buf) (zero-add (length text))
