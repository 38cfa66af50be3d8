-- The bytes of a branch reply, and what the branch reader makes of bytes.
use Rattle.std.specs.Prelude.{ℕ, ◌+◌, ◌-◌, ◌*◌, ◌^◌, Bool, true, cond, not, ◌&&◌, List, [], ◌∷◌, ◌++◌, length, take, drop, Some, None, Ok, Err, Option, Result, ◌==◌, bit_and, bit_or, nat_lt}
use Rattle.keys.specs.Uid.{uid_number}
use Rattle.keys.specs.declared.uid.Uid.{Uid}
use Rattle.refusals.specs.declared.Refusal.{Refusal}
use Rattle.refusals.specs.declared.Refusal.TheVariants.{NotAKey, WrongStart, WrongLength, MissingBits, WrongChecksum}
use Rattle.octets.specs.Bytes.{two_bytes, six_bytes, checksum_of}

-- Seven bytes FE, one byte AA.
abbrev pub lead_bytes : List ℕ
lead_bytes = 0xFE ∷ 0xFE ∷ 0xFE ∷ 0xFE ∷ 0xFE ∷ 0xFE ∷ 0xFE ∷ 0xAA ∷ []

-- Each byte b as the pair b OR AA, b OR 55.
abbrev pub pairs_of : List ℕ → List ℕ
pairs_of [] = []
pairs_of (b ∷ bytes) = bit_or b 0xAA ∷ bit_or b 0x55 ∷ pairs_of bytes

-- Bytes as pairs, and their sum as pairs behind them.
abbrev pub body_of : List ℕ → List ℕ
body_of pairs = pairs ++ pairs_of (two_bytes (checksum_of pairs))

-- The reply of the key that a number stands for.
unfoldable pub branch_reply : ℕ → List ℕ
branch_reply n = lead_bytes ++ body_of (pairs_of (six_bytes n))

-- What follows a beginning.
abbrev pub behind : List ℕ → List ℕ → Option (List ℕ)
behind [] bytes = Some bytes
behind (x ∷ start) [] = None
behind (x ∷ start) (b ∷ bytes) = cond (x == b) (behind start bytes) None

abbrev pub or_else : Option (List ℕ) → Option (List ℕ) → Option (List ℕ)
or_else (Some rest) other = Some rest
or_else None other = other

-- What follows the lead bytes, of which some at the front may be lost, but not the last.
abbrev pub behind_lead : List ℕ → List ℕ → Option (List ℕ)
behind_lead [] bytes = None
behind_lead (x ∷ lead) bytes = or_else (behind (x ∷ lead) bytes) (behind_lead lead bytes)

-- Both bytes of a pair have the bits that are always set.
abbrev pub pair_set : ℕ → ℕ → Bool
pair_set p q = bit_and p 0xAA == 0xAA && bit_and q 0x55 == 0x55

abbrev pub bits_set : List ℕ → Bool
bits_set [] = true
bits_set (p ∷ []) = true
bits_set (p ∷ q ∷ pairs) = pair_set p q && bits_set pairs

-- The number that pairs carry, after those before.
abbrev pub carried_after : ℕ → List ℕ → ℕ
carried_after n [] = n
carried_after n (p ∷ []) = n
carried_after n (p ∷ q ∷ pairs) = carried_after (n * 256 + bit_and p q) pairs

abbrev pub carried : List ℕ → ℕ
carried pairs = carried_after 0 pairs

-- The pairs at the end carry the sum of those before.
unfoldable pub sum_carried : List ℕ → Bool
sum_carried body = carried (drop 12 body) == checksum_of (take 12 body)

-- The number of the key in sixteen bytes, or the first refusal.
abbrev pub body_read : List ℕ → Result ℕ Refusal
body_read body =
    cond (not (length body == 16)) (Err WrongLength)
    (cond (not (bits_set body)) (Err MissingBits)
    (cond (not (sum_carried body)) (Err WrongChecksum)
    (cond (nat_lt (carried (take 12 body)) (2 ^ 48 - 1)) (Ok (carried (take 12 body))) (Err NotAKey))))

abbrev pub rest_read : Option (List ℕ) → Result ℕ Refusal
rest_read None = Err WrongStart
rest_read (Some body) = body_read body

-- The number of the key whose reply bytes are, or the first refusal.
unfoldable pub branch_read : List ℕ → Result ℕ Refusal
branch_read bytes = rest_read (behind_lead lead_bytes bytes)

-- What a reader answered, by the number of the key.
abbrev pub key_number : Result Uid Refusal → Result ℕ Refusal
key_number (Ok key) = Ok (uid_number key)
key_number (Err refusal) = Err refusal
