-- What a writer wrote is the first bytes of the buffer.
use Rattle.std.proofs.Common.{◌≡◌, ℕ, Bool, true, false, cond, ltb, List, length, take, IfOk, Some, None, Ok, Err, Option, Result, sym, refl, subst}
use Rattle.octets.specs.Buffer.{begun}
use Rattle.octets.proofs.Buffers.{take-begun}
use Rattle.refusals.specs.declared.Refusal.{Refusal}
use Rattle.refusals.specs.declared.Refusal.TheVariants.{BufferTooShort}
use Rattle.octets.specs.Writers.{answered, left_in}

-- What holds of the bytes to be written holds of what was written.
pub written_holds : (refusal : Option Refusal) (bytes buf : List ℕ) (P : List ℕ → Type 0) → (refusal ≡ None → P bytes)
    → IfOk (answered refusal bytes buf) (λ n. P (take n (left_in refusal bytes buf)))
written_holds (Some refusal) bytes buf P h = tt
written_holds None bytes buf P h = by_room (ltb (length buf) (length bytes))
  where
    by_room : (short : Bool)
        → IfOk (cond short (Err BufferTooShort) (Ok (length bytes))) (λ n. P (take n (cond short buf (begun buf bytes))))
    by_room true = tt
    by_room false = subst P (sym (take-begun buf bytes (length bytes) refl)) (h refl)

-- The same of what a writer answered and left.
pub written_result : (refusal : Option Refusal) (bytes buf : List ℕ) (r : Result ℕ Refusal) (after : List ℕ) (P : List ℕ → Type 0)
    → r ≡ answered refusal bytes buf
    → after ≡ left_in refusal bytes buf
    → (refusal ≡ None → P bytes)
    → IfOk r (λ n. P (take n after))
written_result refusal bytes buf r after P answer left h = rw (answer, left) (written_holds refusal bytes buf P h)
