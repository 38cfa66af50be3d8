-- What follows the lead bytes of a branch reply.
use Rattle.std.proofs.Common.{◌≡◌, ℕ, cond, eqb, List, [], ◌∷◌, ◌++◌, Some, None, Option, Ok, Err, Result, sym, refl, ap, ◌∙◌, ap₂, arith, Bor, MatchOption}
use Rattle.std.proofs.lemmas.Bool.{eq-eqb}
use Rattle.std.proofs.lemmas.Bool.Decides.{nat_tests}
use Rattle.std.specs.Option.{option_map, ok_or}
use Rattle.refusals.specs.declared.Refusal.{Refusal}
use Rattle.refusals.specs.declared.Refusal.TheVariants.{WrongStart}
use Rattle.branch.specs.BranchReply.{behind, body_read, rest_read}

-- A beginning with something behind it.
pub behind_append : (start rest : List ℕ) → behind start (start ++ rest) ≡ Some rest
behind_append [] rest = refl
behind_append (x ∷ start) rest = rw (eq-eqb x x refl) (behind_append start rest)

-- What follows a beginning, with that beginning, is all.
same_head : (x b : ℕ) (found : Option (List ℕ)) (rest : List ℕ) → cond (eqb x b) found None ≡ Some rest → (x ≡ b) × (found ≡ Some rest)
same_head x b found rest e = grind (arith, nat_tests)

pub append_behind : (start bytes rest : List ℕ) → behind start bytes ≡ Some rest → bytes ≡ start ++ rest
append_behind [] bytes rest e = cc
append_behind (x ∷ start) [] rest e = cc
append_behind (x ∷ start) (b ∷ bytes) rest e =
    let h = same_head x b (behind start bytes) rest e in
    ap₂ ◌∷◌ (sym h.0) (append_behind start bytes rest h.1)

-- What `strip_prefix` answers.
pub stripped : (bytes start : List ℕ) (r : Option (Bor (List ℕ)))
    → MatchOption r ((rest : List ℕ) → bytes ≡ start ++ rest → ⊥) (λ x. bytes ≡ start ++ x.now)
    → option_map (λ x. x.now) r ≡ behind start bytes
stripped bytes start (Some x) e = sym (ap (behind start) e ∙ behind_append start x.now)
stripped bytes start None no-rest = by_answer (behind start bytes) refl
  where
    by_answer : (found : Option (List ℕ)) → behind start bytes ≡ found → None ≡ behind start bytes
    by_answer (Some rest) e = absurd (no-rest rest (append_behind start bytes rest e))
    by_answer None e = sym e

-- What a reader makes of what follows the lead, or of that nothing does.
pub some_lead : (found : Option (Bor (List ℕ))) (r : Result (Bor (List ℕ)) Refusal) (body : Bor (List ℕ))
    → r ≡ ok_or found WrongStart → r ≡ Ok body → body_read body.now ≡ rest_read (option_map (λ x. x.now) found)
some_lead (Some x) r body made is = cc
some_lead None r body made is = cc

pub no_lead : (found : Option (Bor (List ℕ))) (r : Result (Bor (List ℕ)) Refusal) (refusal : Refusal)
    → r ≡ ok_or found WrongStart → r ≡ Err refusal → Err refusal ≡ rest_read (option_map (λ x. x.now) found)
no_lead (Some x) r refusal made is = cc
no_lead None r refusal made is = cc
