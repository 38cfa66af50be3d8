-- What honest answers say about awake keys.
use Rattle.std.proofs.Common.{◌≡◌, ℕ, suc, ◌<◌, ◌≤◌, true, false, ◌&&◌, eqb, ◌⊎◌, refl, ◌∙◌, inl, inr, arith}
use Rattle.std.proofs.lemmas.Bool.{cases_Bool, cases_lt, cond_both}
use Rattle.keys.specs.declared.range.Range.{Range}
use Rattle.lines.specs.Meaning.{Meaning, is_awake}
use Rattle.lines.specs.Rules.{Probed, hush_answer, hushed}
use Rattle.lines.specs.declared.answers.ProbeAnswer.{ProbeAnswer}
use Rattle.lines.specs.declared.answers.ProbeAnswer.TheVariants.{Silent}
use Rattle.lines.proofs.Meanings.{awake_hushed}

-- No awake key has a rank below this one.
abbrev pub NoneAwakeBelow : {K : Type 0} → (K → ℕ) → Meaning K → ℕ → Type 0
NoneAwakeBelow {K} rank m low = (k : K) → rank k < low → is_awake m k ≡ false

module _ {K : Type 0} (rank : K → ℕ) (m : Meaning K) where
  pub none_below_less : (low high : ℕ) → low ≤ high → NoneAwakeBelow rank m high → NoneAwakeBelow rank m low
  none_below_less low high le none k less = none k (omega arith)

  module _ (range : Range K) (p : ProbeAnswer K) (honest : Probed rank m range p) where
    -- A range that is silent has no awake key.
    pub none_in_silent : NoneAwakeBelow rank m (rank range.lo) → p ≡ Silent → NoneAwakeBelow rank m (suc (rank range.hi))
    none_in_silent none silent k less = by_place (cases_lt (rank k) (rank range.lo))
      where
        by_state : (is_awake m k ≡ true) ⊎ (is_awake m k ≡ false) → rank range.lo ≤ rank k → is_awake m k ≡ false
        by_state (inl awake) le = absurd (honest.not_silent_if_one_awake k le (omega arith) awake silent)
        by_state (inr asleep) le = asleep

        by_place : (rank k < rank range.lo) ⊎ (rank range.lo ≤ rank k) → is_awake m k ≡ false
        by_place (inl below) = none k below
        by_place (inr le) = by_state (cases_Bool (is_awake m k)) le

    -- One that is not has some.
    pub some_in_loud : (p ≡ Silent → ⊥) → NoneAwakeBelow rank m (suc (rank range.hi)) → ⊥
    some_in_loud loud none = loud (honest.silent_if_none_awake_up_to_hi (λ k le. none k (omega arith)))

  module _ (k : K) where
    -- A hush that nobody answered changed nothing.
    pub hushed_unanswered : hush_answer m k ≡ false → hushed rank m k ≡ m
    unfolding hushed
    hushed_unanswered no' = rw no'

    -- A hush wakes nobody.
    pub hushed_asleep : (j : K) → is_awake m j ≡ false → is_awake (hushed rank m k) j ≡ false
    hushed_asleep j asleep =
        awake_hushed rank m k j
        ∙ cond_both (hush_answer m k && eqb (rank j) (rank k)) false (is_awake m j) (λ b. b ≡ false) (λ _. refl) (λ _. asleep)

    pub none_below_hushed : (low : ℕ) → NoneAwakeBelow rank m low → NoneAwakeBelow rank (hushed rank m k) low
    none_below_hushed low none j less = hushed_asleep j (none j less)
