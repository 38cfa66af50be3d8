-- What reads as a key is that key's branch reply.
use Rattle.std.proofs.Common.{◌≡◌, ℕ, suc, ◌-◌, ◌^◌, ◌<◌, ◌≤◌, Bool, true, cond, not, eqb, ltb, List, [], ◌∷◌, ◌++◌, length, take, drop, IfOk, Some, None, Ok, Err, Option, Result, sym, refl, ap, ◌∙◌, subst, arith}
use Rattle.std.proofs.lemmas.List.{take-append-drop, length-take, length-drop, drop_at, drop-append-le}
use Rattle.std.proofs.ByRecursion.{All-take, All-drop}
use Rattle.std.proofs.lemmas.Bool.{eqb-true, and_parts}
use Rattle.std.specs.List.{AllByRecursion}
use Rattle.keys.specs.Uid.{uid_number}
use Rattle.keys.specs.declared.uid.Uid.{Uid}
use Rattle.refusals.specs.declared.Refusal.{Refusal}
use Rattle.refusals.specs.declared.Refusal.TheVariants.{WrongStart, WrongLength, MissingBits, WrongChecksum, NotAKey}
use Rattle.octets.specs.Bytes.{two_bytes, six_bytes, checksum_of}
use Rattle.branch.specs.BranchReply.{lead_bytes, pairs_of, body_of, branch_reply, behind, behind_lead, or_else, bits_set, carried, sum_carried, body_read, rest_read, branch_read, key_number}
use Rattle.branch.proofs.Carried.{Byte, bytes_in, carried_in, pairs_back, bits_set_append, two_back, six_back}
use Rattle.branch.proofs.Leads.{append_behind}

nothing_found : (body : List ℕ) → None ≡ Some body → ⊥
nothing_found body e = let z : ◌≡◌ {A = ℕ} 0 1 = cc in omega arith

refused_not_read : (refusal : Refusal) (n : ℕ) → Err refusal ≡ Ok n → ⊥
refused_not_read refusal n e = let z : ◌≡◌ {A = ℕ} 0 1 = cc in omega arith

-- What follows the lead bytes stands behind the last of them.
lead_only : (lead bytes body : List ℕ) → behind_lead lead bytes ≡ Some body
    → (lost : ℕ) × (lost < length lead) × (bytes ≡ drop lost lead ++ body)
lead_only [] bytes body e = absurd (nothing_found body e)
lead_only (x ∷ lead) bytes body e = by_first (behind (x ∷ lead) bytes) refl e (lead_only lead bytes body)
  where
    by_first : (first : Option (List ℕ)) → behind (x ∷ lead) bytes ≡ first → or_else first (behind_lead lead bytes) ≡ Some body
        → (behind_lead lead bytes ≡ Some body → (lost : ℕ) × (lost < length lead) × (bytes ≡ drop lost lead ++ body))
        → (lost : ℕ) × (lost < suc (length lead)) × (bytes ≡ drop lost (x ∷ lead) ++ body)
    by_first (Some rest) found same later = (0, omega arith, append_behind (x ∷ lead) bytes body (found ∙ same))
    by_first None found same later = let h = later same in (suc h.0, omega arith, h.2)

-- What is known where nothing is refused.
none_refused : (a b c d : Bool) (m n : ℕ)
    → cond (not a) (Err WrongLength) (cond (not b) (Err MissingBits) (cond (not c) (Err WrongChecksum) (cond d (Ok m) (Err NotAKey)))) ≡ Ok n
    → (a ≡ true) × (b ≡ true) × (c ≡ true) × (d ≡ true) × (m ≡ n)
none_refused a b c d m n e = grind arith

-- Twelve bytes that carry a number and four that carry their sum are the body of its reply.
parts_only : (pairs sums : List ℕ) (n : ℕ) → length pairs ≡ 12 → length sums ≡ 4 → AllByRecursion Byte pairs → AllByRecursion Byte sums
    → bits_set pairs ≡ true → bits_set sums ≡ true → carried pairs ≡ n → carried sums ≡ checksum_of pairs
    → pairs ++ sums ≡ body_of (pairs_of (six_bytes n))
parts_only pairs sums n lp ls sp ss bp bs key sum =
    let p = pairs_back 6 pairs lp sp bp in
    let s = pairs_back 2 sums ls ss bs in
    let six = six_back n (bytes_in pairs) p.1 p.2 (sym (carried_in 0 pairs) ∙ key) in
    let two = two_back (checksum_of pairs) (bytes_in sums) s.1 s.2 (sym (carried_in 0 sums) ∙ sum) in
    let same_pairs : pairs ≡ pairs_of (six_bytes n) = p.0 ∙ ap pairs_of (sym six) in
    let same_sums : sums ≡ pairs_of (two_bytes (checksum_of pairs)) = s.0 ∙ ap pairs_of (sym two) in
    ap (λ t. pairs ++ t) same_sums ∙ ap body_of same_pairs

-- Sixteen bytes that read as a number are the body of its reply.
body_only : (body : List ℕ) (n : ℕ) → AllByRecursion Byte body → body_read body ≡ Ok n → body ≡ body_of (pairs_of (six_bytes n))
unfolding sum_carried
body_only body n small e =
    let known =
    none_refused (eqb (length body) 16) (bits_set body) (sum_carried body) (ltb (carried (take 12 body)) (2 ^ 48 - 1))
    (carried (take 12 body)) n e in
    let long = eqb-true (length body) 16 known.0 in
    let front : length (take 12 body) ≡ 12 = simp length-take (omega arith) in
    let back : length (drop 12 body) ≡ 4 = simp length-drop (omega arith) in
    let whole = take-append-drop 12 body in
    let both = and_parts (bits_set (take 12 body)) (bits_set (drop 12 body)) (sym (bits_set_append 6 (take 12 body) (drop 12 body) front) ∙ ap bits_set whole ∙ known.1) in
    sym whole
    ∙ parts_only (take 12 body) (drop 12 body) n front back (All-take Byte 12 body small) (All-drop Byte 12 body small) both.0 both.1 known.4
    (eqb-true (carried (drop 12 body)) (checksum_of (take 12 body)) known.2)

-- All of it: the reply of the key, less some of its lead bytes.
pub branch_only : (bytes : List ℕ) (n : ℕ) → AllByRecursion Byte bytes → branch_read bytes ≡ Ok n
    → (lost : ℕ) × (lost ≤ 7) × (bytes ≡ drop lost (branch_reply n))
unfolding branch_read branch_reply
branch_only bytes n small e = by_rest (behind_lead lead_bytes bytes) refl e
  where
    by_rest : (rest : Option (List ℕ)) → behind_lead lead_bytes bytes ≡ rest → rest_read rest ≡ Ok n
        → (lost : ℕ) × (lost ≤ 7) × (bytes ≡ drop lost (branch_reply n))
    by_rest None found e = absurd (refused_not_read WrongStart n e)
    by_rest (Some body) found e =
        let lead = lead_only lead_bytes bytes body found in
        let few : lead.0 ≤ 7 = omega arith in
        let front = drop lead.0 lead_bytes in
        let last : body ≡ drop (length front) bytes = sym (ap (drop (length front)) lead.2 ∙ drop_at front body (length front) refl) in
        let same = body_only body n (subst (AllByRecursion Byte) (sym last) (All-drop Byte (length front) bytes small)) e in
        (lead.0, few, lead.2 ∙ ap (λ b. drop lead.0 lead_bytes ++ b) same ∙ sym (drop-append-le lead.0 lead_bytes (body_of (pairs_of (six_bytes n))) (omega arith)))

-- The same of what a reader answered.
pub answer_only : (bytes : List ℕ) (r : Result Uid Refusal) → AllByRecursion Byte bytes → key_number r ≡ branch_read bytes
    → IfOk r (λ key. (lost : ℕ) × (lost ≤ 7) × (bytes ≡ drop lost (branch_reply (uid_number key))))
answer_only bytes (Ok key) small e = branch_only bytes (uid_number key) small (sym e)
answer_only bytes (Err refusal) small e = tt
