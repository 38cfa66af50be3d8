-- A branch reply reads back as its key.
use Rattle.std.proofs.Common.{◌≡◌, ℕ, zero, suc, ◌-◌, ◌^◌, ◌<◌, ◌≤◌, true, List, ◌++◌, length, take, drop, Some, Ok, sym, refl, ap, ◌∙◌, arith}
use Rattle.std.proofs.ByRecursion.{All-append}
use Rattle.std.proofs.lemmas.List.{take_at, drop_at, drop-append-le}
use Rattle.std.proofs.lemmas.Bool.{eq-eqb, lt-ltb}
use Rattle.octets.specs.Bytes.{two_bytes, six_bytes, checksum_of}
use Rattle.branch.specs.BranchReply.{lead_bytes, pairs_of, body_of, branch_reply, behind_lead, bits_set, carried, sum_carried, body_read, rest_read, branch_read}
use Rattle.branch.proofs.Carried.{Byte, small_six, small_two, six_written, two_written, carried_pairs, bits_set_pairs}

lead_read : (lost : ℕ) (body : List ℕ) → lost ≤ 7 → behind_lead lead_bytes (drop lost lead_bytes ++ body) ≡ Some body
lead_read zero body h = refl
lead_read (suc zero) body h = refl
lead_read (suc (suc zero)) body h = refl
lead_read (suc (suc (suc zero))) body h = refl
lead_read (suc (suc (suc (suc zero)))) body h = refl
lead_read (suc (suc (suc (suc (suc zero))))) body h = refl
lead_read (suc (suc (suc (suc (suc (suc zero)))))) body h = refl
lead_read (suc (suc (suc (suc (suc (suc (suc zero))))))) body h = refl
lead_read (suc (suc (suc (suc (suc (suc (suc (suc lost)))))))) body h = absurd (omega arith)

body_accepts : (body : List ℕ) (n : ℕ) → length body ≡ 16 → bits_set body ≡ true → sum_carried body ≡ true → carried (take 12 body) ≡ n → n < 2 ^ 48 - 1
    → body_read body ≡ Ok n
body_accepts body n long set sum holds key =
    rw (eq-eqb (length body) 16 long, set, sum, holds, lt-ltb n (2 ^ 48 - 1) key)

sum_of_key : (pairs : List ℕ) → length pairs ≡ 12 → sum_carried (body_of pairs) ≡ true
unfolding sum_carried
sum_of_key pairs long =
    let s = checksum_of pairs in
    let small : s < 2 ^ 16 = omega arith in
    let behind = ap carried (drop_at pairs (pairs_of (two_bytes s)) 12 long) ∙ carried_pairs 0 (two_bytes s) (small_two s) ∙ two_written s small in
    let before = ap checksum_of (take_at pairs (pairs_of (two_bytes s)) 12 long) in
    eq-eqb _ _ (behind ∙ sym before)

body_of_key : (n : ℕ) → n < 2 ^ 48 - 1 → body_read (body_of (pairs_of (six_bytes n))) ≡ Ok n
body_of_key n key =
    let sum = checksum_of (pairs_of (six_bytes n)) in
    body_accepts (body_of (pairs_of (six_bytes n))) n refl
    (bits_set_pairs (six_bytes n ++ two_bytes sum) (All-append Byte (six_bytes n) (two_bytes sum) (small_six n) (small_two sum)))
    (sum_of_key (pairs_of (six_bytes n)) refl)
    (carried_pairs 0 (six_bytes n) (small_six n) ∙ six_written n key)
    key

-- With any number of lead bytes from 0 to 7 lost.
pub branch_reads_back : (n lost : ℕ) → n < 2 ^ 48 - 1 → lost ≤ 7 → branch_read (drop lost (branch_reply n)) ≡ Ok n
unfolding branch_read branch_reply
branch_reads_back n lost key few =
    let body = body_of (pairs_of (six_bytes n)) in
    ap (λ bytes. rest_read (behind_lead lead_bytes bytes)) (drop-append-le lost lead_bytes body (omega arith))
    ∙ ap rest_read (lead_read lost body few)
    ∙ body_of_key n key
