-- What a walk keeps whatever is answered.
use Rattle.std.proofs.Common.{◌≡◌, ℕ, suc, ◌≤◌, Bool, true, false, not, ◌&&◌, ltb, List, [], ◌∷◌, length, Some, None, Option, sym, refl, ap, subst, arith}
use Rattle.std.proofs.lemmas.Bool.{and_parts, cond_both, cond-true, leb-false, le-leb, ltb-true}
use Rattle.keys.specs.declared.range.Range.{Range}
use Rattle.lines.specs.declared.answers.ProbeAnswer.{ProbeAnswer}
use Rattle.lines.specs.declared.answers.ProbeAnswer.TheVariants.{Silent, Clear, Garbled}
use Rattle.refusals.specs.declared.Refusal.{Refusal}
use Rattle.walk_law.specs.Nested.{nested, keeps_shape}
use Rattle.walk_law.specs.Ranks.{is_in, Ascends}
use Rattle.walk_law.specs.Walk.{Walk, heard, after_answer, after_probe, after_hush, hush_next, split_off, ended, is_one, in_range, phase_over, refusal_in, unless_refused, in_memory, most_pending, heard_by_rules}
use Rattle.walk_law.specs.declared.phase.Phase.{Phase}
use Rattle.walk_law.specs.declared.phase.Phase.TheVariants.{Walking, Walked, Laid, Set, Full, Contradicted}
use Rattle.walk_law.specs.declared.question.Answer.{Answer}
use Rattle.walk_law.specs.declared.question.Answer.TheVariants as answer
use Rattle.walk_law.proofs.NestedRanges.{Nested, facts, tested, nested_next, nested_halves}
use Rattle.walk_law.proofs.RankLists.{length-put_in, ascends_put_in}

module _ (levels top places : ℕ) (few_levels : levels ≤ 48) where
  -- A walk in its memory.
  pub record Kept (w : Walk) : Type 0 where
    pub shape : keeps_shape levels top w.phase w.pending ≡ true
    pub ascends : Ascends w.listed
    pub fits : length w.listed ≤ places

  pub shape_over : (pending : List (Range ℕ)) → nested levels top pending ≡ true → keeps_shape levels top (phase_over pending) pending ≡ true
  unfolding keeps_shape
  shape_over [] n = n
  shape_over (r ∷ rs) n = n

  pub shape_nested : (r : Range ℕ) (rs : List (Range ℕ)) → keeps_shape levels top Walking (r ∷ rs) ≡ true → nested levels top (r ∷ rs) ≡ true
  unfolding keeps_shape
  shape_nested r rs s = s

  few_behind : (r : Range ℕ) (rs : List (Range ℕ)) → Nested levels top r rs → suc (length rs) ≤ suc levels
  few_behind r rs n = let few = n.few in omega arith

  -- So few ranges are pending that there is memory for them.
  pub pending_few : (phase : Phase) (pending : List (Range ℕ)) → keeps_shape levels top phase pending ≡ true → length pending ≤ suc levels
  unfolding keeps_shape
  pending_few phase [] s = omega arith
  pending_few phase (r ∷ rs) s = few_behind r rs (facts levels top r rs (and_parts _ _ s).1)

  pub fits_memory : (before after : Walk) → Kept after → in_memory before after ≡ after
  fits_memory before after k =
      let few = pending_few after.phase after.pending k.shape in
      cond-true _ after (ended Contradicted before) (le-leb (length after.pending) most_pending (omega arith))

  nested_tail : (r : Range ℕ) (rs : List (Range ℕ)) → Nested levels top r rs → nested levels top rs ≡ true
  unfolding nested
  nested_tail r [] n = refl
  nested_tail r (s ∷ rs) n = tested levels top s rs (nested_next levels top r s rs n)

  module _ (r : Range ℕ) (rs : List (Range ℕ)) (hushing : Option ℕ) (listed : List ℕ) (questions : ℕ)
      (n : Nested levels top r rs)
      (ascends : Ascends listed)
      (fits : length listed ≤ places) where
    abbrev walk : Walk
    walk = record { phase = Walking; pending = r ∷ rs; hushing = hushing; listed = listed; questions = questions }

    kept_hush_next : (k : ℕ) → Kept (hush_next k walk)
    kept_hush_next k = record { shape = shape_over (r ∷ rs) (tested levels top r rs n); ascends = ascends; fits = fits }

    kept_split : is_one r ≡ false → Kept (split_off r rs walk)
    kept_split t =
        let less = leb-false r.hi r.lo t in
        record { shape = shape_over _ (tested levels top _ _ (nested_halves levels top r rs n less)); ascends = ascends; fits = fits }

    kept_ended : Kept (ended Full walk) × Kept (ended Contradicted walk)
    unfolding keeps_shape
    kept_ended =
        let is = tested levels top r rs n in
        (record { shape = is; ascends = ascends; fits = fits }, record { shape = is; ascends = ascends; fits = fits })

    kept_probe : (p : ProbeAnswer ℕ) → Kept (after_probe r rs p walk)
    kept_probe Silent = record { shape = shape_over rs (nested_tail r rs n); ascends = ascends; fits = fits }
    kept_probe (Clear k) =
        cond_both (is_one r) _ _ Kept (λ _. kept_hush_next r.lo)
        (λ t. cond_both (in_range k r && not (is_in k listed)) _ _ Kept (λ _. kept_hush_next k) (λ _. kept_split t))
    kept_probe Garbled = cond_both (is_one r) _ _ Kept (λ _. kept_hush_next r.lo) kept_split

    kept_hush : (k : ℕ) (replied : Bool) → Kept (after_hush places k r rs replied walk)
    kept_hush k false = cond_both (is_one r) _ _ Kept (λ _. kept_ended.1) kept_split
    kept_hush k true =
        cond_both (is_in k listed) _ _ Kept (λ _. kept_ended.1)
        (λ out. cond_both (ltb (length listed) places) _ _ Kept
        (λ free. record {
          shape = cond_both (is_one r) rs (r ∷ rs) (λ p. keeps_shape levels top (phase_over p) p ≡ true) (λ _. shape_over rs (nested_tail r rs n)) (λ _. shape_over (r ∷ rs) (tested levels top r rs n));
          ascends = ascends_put_in 0 k listed ascends (omega arith) out;
          fits = rw (length-put_in k listed) (ltb-true _ _ free);
        })
        (λ _. kept_ended.0))

    pub kept_answer : (a : Answer ℕ) → Kept (after_answer places (r ∷ rs) hushing a walk)
    kept_answer a = by hushing refl a
      where
        same : Kept walk
        same = record { shape = shape_over (r ∷ rs) (tested levels top r rs n); ascends = ascends; fits = fits }

        by : (h : Option ℕ) → hushing ≡ h → (b : Answer ℕ) → Kept (after_answer places (r ∷ rs) h b walk)
        by None e (answer.Probe p) = kept_probe p
        by None e (answer.Hush replied) = same
        by (Some k) e (answer.Probe p) = same
        by (Some k) e (answer.Hush replied) = kept_hush k replied

  -- The walk and any answer, by the parts of the walk.
  kept_by_parts : (phase : Phase) (pending : List (Range ℕ)) (hushing : Option ℕ) (listed : List ℕ) (questions : ℕ) (a : Answer ℕ)
      → Kept (record { phase = phase; pending = pending; hushing = hushing; listed = listed; questions = questions })
      → Kept (heard places (record { phase = phase; pending = pending; hushing = hushing; listed = listed; questions = questions }) a)
  unfolding heard
  kept_by_parts Walked pending hushing listed questions a k = k
  kept_by_parts Laid pending hushing listed questions a k = k
  kept_by_parts Set pending hushing listed questions a k = k
  kept_by_parts Full pending hushing listed questions a k = k
  kept_by_parts Contradicted pending hushing listed questions a k = k
  kept_by_parts Walking [] hushing listed questions a k = by (refusal_in Walking questions hushing a)
    where
      by : (o : Option Refusal)
          → Kept (unless_refused o (record { phase = Walking; pending = []; hushing = hushing; listed = listed; questions = questions })
          (record { phase = Walking; pending = []; hushing = hushing; listed = listed; questions = questions }))
      by None = k
      by (Some e) = k
  kept_by_parts Walking (r ∷ rs) hushing listed questions a k = by (refusal_in Walking questions hushing a)
    where
      by : (o : Option Refusal)
          → Kept (unless_refused o (record { phase = Walking; pending = r ∷ rs; hushing = hushing; listed = listed; questions = questions })
          (in_memory (record { phase = Walking; pending = r ∷ rs; hushing = hushing; listed = listed; questions = questions })
          (after_answer places (r ∷ rs) hushing a (record { phase = Walking; pending = r ∷ rs; hushing = hushing; listed = listed; questions = questions }))))
      by None =
          let after = kept_answer r rs hushing listed questions (facts levels top r rs (shape_nested r rs k.shape)) k.ascends k.fits a in
          let before : Walk = record { phase = Walking; pending = r ∷ rs; hushing = hushing; listed = listed; questions = questions } in
          subst Kept (sym (fits_memory before (after_answer places (r ∷ rs) hushing a before) after)) after
      by (Some e) = k

  pub kept_heard : (w : Walk) (a : Answer ℕ) → Kept w → Kept (heard places w a)
  kept_heard w a k = kept_by_parts w.phase w.pending w.hushing w.listed w.questions a k

  -- The memory makes no difference.
  rules_by_parts : (phase : Phase) (pending : List (Range ℕ)) (hushing : Option ℕ) (listed : List ℕ) (questions : ℕ) (a : Answer ℕ)
      → Kept (record { phase = phase; pending = pending; hushing = hushing; listed = listed; questions = questions })
      → heard places (record { phase = phase; pending = pending; hushing = hushing; listed = listed; questions = questions }) a
      ≡ heard_by_rules places (record { phase = phase; pending = pending; hushing = hushing; listed = listed; questions = questions }) a
  unfolding heard heard_by_rules
  rules_by_parts Walked pending hushing listed questions a k = refl
  rules_by_parts Laid pending hushing listed questions a k = refl
  rules_by_parts Set pending hushing listed questions a k = refl
  rules_by_parts Full pending hushing listed questions a k = refl
  rules_by_parts Contradicted pending hushing listed questions a k = refl
  rules_by_parts Walking [] hushing listed questions a k = refl
  rules_by_parts Walking (r ∷ rs) hushing listed questions a k =
      let after = kept_answer r rs hushing listed questions (facts levels top r rs (shape_nested r rs k.shape)) k.ascends k.fits a in
      let w : Walk = record { phase = Walking; pending = r ∷ rs; hushing = hushing; listed = listed; questions = questions } in
      ap (unless_refused (refusal_in Walking questions hushing a) w) (fits_memory w _ after)

  pub heard_is_by_rules : (w : Walk) (a : Answer ℕ) → Kept w → heard places w a ≡ heard_by_rules places w a
  heard_is_by_rules w a k = rules_by_parts w.phase w.pending w.hushing w.listed w.questions a k
