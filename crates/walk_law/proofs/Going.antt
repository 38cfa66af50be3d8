-- Every answer that a line may give leads on.
use Rattle.std.proofs.Common.{◌≡◌, ℕ, suc, ◌+◌, ◌*◌, ◌^◌, ◌<◌, ◌≤◌, Bool, true, false, cond, not, ◌&&◌, ltb, ◌⊎◌, List, [], ◌∷◌, length, is_some, Some, None, Option, sym, refl, ap, ◌∙◌, subst, inl, inr, mul-le-mul, arith}
use Rattle.std.proofs.lemmas.Bool.{and_parts, cases_Bool, cases_lt, cond_both, both_ways, leb-true, leb-false, lt-leb, ltb-true, ltb-false, not-true}
use Rattle.keys.specs.declared.range.Range.{Range}
use Rattle.lines.specs.Meaning.{Fitted, Meaning, is_fitted, is_awake, awake_there}
use Rattle.lines.specs.Rules.{Probed, hush_answer, hushed}
use Rattle.lines.specs.declared.answers.ProbeAnswer.{ProbeAnswer}
use Rattle.lines.specs.declared.answers.ProbeAnswer.TheVariants.{Silent, Clear, Garbled}
use Rattle.walk_law.specs.Ranks.{is_in, put_in}
use Rattle.walk_law.specs.Run.{Honest, to_probe, to_hush, Step, Steps, no_step, then_step, range_ranks, probe_ranks, answer_ranks}
use Rattle.walk_law.specs.Walk.{Walk, walking, heard, after_probe, after_hush, after_yes, after_no, after_answer, is_one, in_range, hush_next, split_off, dropped}
use Rattle.walk_law.specs.declared.phase.Phase.{Phase}
use Rattle.walk_law.specs.declared.phase.Phase.TheVariants.{Walking, Walked, Laid, Set, Full, Contradicted}
use Rattle.walk_law.specs.declared.question.Answer.{Answer}
use Rattle.walk_law.specs.declared.question.Answer.TheVariants as answer
use Rattle.walk_law.proofs.AnyAnswer.{Kept, kept_answer, fits_memory}
use Rattle.walk_law.proofs.Honest.{NoneAwakeBelow, none_in_silent, some_in_loud, hushed_unanswered}
use Rattle.walk_law.proofs.Listing.{Laws}
use Rattle.walk_law.proofs.Standing.{Walks, Stands, StandsIn, most, drops, ends, hushes, splits, lists, lists_and_drops, lists_and_ends, overflows}

-- What is not fitted is not awake.
pub unfitted_asleep : (o : Option Fitted) → is_some o ≡ false → awake_there o ≡ false
unfitted_asleep None e = refl
unfitted_asleep (Some f) e = cc

module _ {K : Type 0} (rank : K → ℕ) (levels top places : ℕ) (laws : Laws rank levels top) (few_places : places ≤ 65536) where
  module _ (m : Meaning K) (r : Range ℕ) (rs : List (Range ℕ)) (listed : List ℕ) (questions : ℕ) where
    -- It has asked fewer questions than are counted.
    pub asked_less : (hushing : Option ℕ) → Walks rank levels top places m r rs hushing listed questions → questions < most rank levels top places listed
    asked_less None w = let few = w.few in omega arith
    asked_less (Some k) w = let few = w.few in omega arith

    pub not_spent : (hushing : Option ℕ) → Walks rank levels top places m r rs hushing listed questions → questions < 2 ^ 24
    not_spent hushing w =
        let fits = w.book.fits in
        let narrow = laws.few_levels in
        let least : suc (length listed) * (3 * levels + 2) ≤ 65537 * 146 = mul-le-mul {n₂ = 65537} {m₂ = 146} (omega arith) (omega arith) in
        let less = asked_less hushing w in
        omega arith

    -- So there is memory for what is pending next.
    kept : (hushing : Option ℕ) → Walks rank levels top places m r rs hushing listed questions → (a : Answer ℕ)
        → Kept levels top places laws.few_levels (after_answer places (r ∷ rs) hushing a (walking r rs hushing listed questions))
    kept hushing w a = kept_answer levels top places laws.few_levels r rs hushing listed questions w.shape w.book.ascends w.book.fits a

    pub probe_is_heard : (p : ProbeAnswer ℕ) → Walks rank levels top places m r rs None listed questions
        → heard places (walking r rs None listed questions) (answer.Probe p) ≡ after_probe r rs p (walking r rs None listed questions)
    unfolding heard
    probe_is_heard p w =
        rw (lt-leb (2 ^ 24) questions (not_spent None w)) (fits_memory levels top places laws.few_levels (walking r rs None listed questions) (after_probe r rs p (walking r rs None listed questions)) (kept None w (answer.Probe p)))

    pub hush_is_heard : (k : ℕ) (replied : Bool) → Walks rank levels top places m r rs (Some k) listed questions
        → heard places (walking r rs (Some k) listed questions) (answer.Hush replied) ≡ after_hush places k r rs replied (walking r rs (Some k) listed questions)
    unfolding heard
    hush_is_heard k replied w =
        rw (lt-leb (2 ^ 24) questions (not_spent (Some k) w)) (fits_memory levels top places laws.few_levels (walking r rs (Some k) listed questions) (after_hush places k r rs replied (walking r rs (Some k) listed questions)) (kept (Some k) w (answer.Hush replied)))

    several : (hushing : Option ℕ) → Walks rank levels top places m r rs hushing listed questions → is_one r ≡ false → r.lo < r.hi
    several hushing w t = leb-false r.hi r.lo t

    the_one : (hushing : Option ℕ) → Walks rank levels top places m r rs hushing listed questions → is_one r ≡ true → r.lo ≡ r.hi
    the_one hushing w t = let le = leb-true r.hi r.lo t in let ordered = w.shape.ordered in omega arith

    -- Where a range of one key was heard from, its key is not listed.
    one_not_listed : Walks rank levels top places m r rs None listed questions → is_one r ≡ true → (NoneAwakeBelow rank m (suc r.hi) → ⊥)
        → is_in r.lo listed ≡ false
    one_not_listed w t loud = by (cases_Bool (is_in r.lo listed))
      where
        one : r.lo ≡ r.hi
        one = the_one None w t

        asleep : is_in r.lo listed ≡ true → NoneAwakeBelow rank m (suc r.hi)
        asleep is j less = place (cases_lt (rank j) r.lo)
          where
            place : (rank j < r.lo) ⊎ (r.lo ≤ rank j) → is_awake m j ≡ false
            place (inl below) = w.none_below j below
            place (inr le) =
                let at : r.lo ≡ rank j = omega (arith, one) in
                w.book.listed_asleep j (ap (λ i. is_in i listed) (sym at) ∙ is)

        by : (is_in r.lo listed ≡ true) ⊎ (is_in r.lo listed ≡ false) → is_in r.lo listed ≡ false
        by (inl is) = absurd (loud (asleep is))
        by (inr out) = out

    hush_the_one : Walks rank levels top places m r rs None listed questions → (NoneAwakeBelow rank m (suc r.hi) → ⊥) → is_one r ≡ true
        → Stands rank levels top places m (hush_next r.lo (walking r rs None listed questions))
    hush_the_one w loud t =
        hushes rank levels top places laws m listed questions r rs r.lo w
        (omega arith, w.shape.ordered, one_not_listed w t loud, loud)

    split_it : (hushing : Option ℕ) → Walks rank levels top places m r rs hushing listed questions → (NoneAwakeBelow rank m (suc r.hi) → ⊥) → is_one r ≡ false
        → Stands rank levels top places m (split_off r rs (walking r rs hushing listed questions))
    split_it hushing w loud t = splits rank levels top places laws m listed questions r rs hushing w (several hushing w t) loud

    drop_it : (rs' : List (Range ℕ)) → Walks rank levels top places m r rs' None listed questions → NoneAwakeBelow rank m (suc r.hi)
        → Stands rank levels top places m (after_probe r rs' Silent (walking r rs' None listed questions))
    drop_it [] w none = ends rank levels top places laws m listed questions r w none
    drop_it (s ∷ rs') w none = drops rank levels top places laws m listed questions r s rs' w none

    -- After an honest answer to a probe.
    pub after_honest_probe : (range : Range K) (p : ProbeAnswer K) → r ≡ range_ranks rank range → Probed rank m range p
        → Walks rank levels top places m r rs None listed questions
        → Stands rank levels top places m (after_probe r rs (probe_ranks rank p) (walking r rs None listed questions))
    after_honest_probe range Silent e honest w =
        let none : NoneAwakeBelow rank m (rank range.lo) = subst (λ (x : Range ℕ). NoneAwakeBelow rank m x.lo) e w.none_below in
        let above = subst (λ (x : Range ℕ). NoneAwakeBelow rank m (suc x.hi)) (sym e) (none_in_silent rank m range Silent honest none refl) in
        drop_it rs w above
    after_honest_probe range (Clear k) e honest w =
        let loud = λ (none : NoneAwakeBelow rank m (suc r.hi)). some_in_loud rank m range (Clear k) honest (λ is. cc) (subst (λ (x : Range ℕ). NoneAwakeBelow rank m (suc x.hi)) e none) in
        cond_both (is_one r) _ _ (Stands rank levels top places m) (hush_the_one w loud)
        (λ t. cond_both (in_range (rank k) r && not (is_in (rank k) listed)) _ _ (Stands rank levels top places m)
        (λ u. let p = and_parts _ _ u in let q = and_parts _ _ p.0 in
        hushes rank levels top places laws m listed questions r rs (rank k) w
        (leb-true _ _ q.0, leb-true _ _ q.1, not-true _ p.1, loud))
        (λ _. split_it None w loud t))
    after_honest_probe range Garbled e honest w =
        let loud = λ (none : NoneAwakeBelow rank m (suc r.hi)). some_in_loud rank m range Garbled honest (λ is. cc) (subst (λ (x : Range ℕ). NoneAwakeBelow rank m (suc x.hi)) e none) in
        cond_both (is_one r) _ _ (Stands rank levels top places m) (hush_the_one w loud) (split_it None w loud)

    module _ (k : K) (w : Walks rank levels top places m r rs (Some (rank k)) listed questions) where
      -- Nobody answered the hush of the only key of a range that was heard from: that cannot be.
      one_answers : hush_answer m k ≡ false → is_one r ≡ true → ⊥
      one_answers unanswered t = w.due.3 (λ j less. place j less (cases_lt (rank j) r.lo))
        where
          one : r.lo ≡ r.hi
          one = the_one (Some (rank k)) w t

          unfitted : is_fitted m k ≡ false
          unfitted = sym (ap (λ b. b && is_fitted m k) w.book.live) ∙ unanswered

          place : (j : K) → rank j < suc r.hi → (rank j < r.lo) ⊎ (r.lo ≤ rank j) → is_awake m j ≡ false
          place j less (inl below) = w.none_below j below
          place j less (inr le) =
              let at : rank j ≡ rank k = omega (arith, one, w.due.0, w.due.1) in
              unfitted_asleep (m.at j) (ap (is_fitted m) (laws.same j k at) ∙ unfitted)

      pub after_unanswered : hush_answer m k ≡ false
          → Stands rank levels top places m (after_no r rs (walking r rs (Some (rank k)) listed questions))
      after_unanswered unanswered =
          cond_both (is_one r) _ _ (Stands rank levels top places m) (λ t. absurd (one_answers unanswered t))
          (split_it (Some (rank k)) w w.due.3)

    list_it : (rs' : List (Range ℕ)) (k : K) → Walks rank levels top places m r rs' (Some (rank k)) listed questions → hush_answer m k ≡ true → length listed < places
        → (one : Bool) → is_one r ≡ one
        → Stands rank levels top places (hushed rank m k) (dropped (cond one rs' (r ∷ rs')) (put_in (rank k) listed) (walking r rs' (Some (rank k)) listed questions))
    list_it rs' k w answered free false t = lists rank levels top places laws m listed questions r rs' k w answered free
    list_it [] k w answered free true t =
        let le = leb-true r.hi r.lo t in let ordered = w.shape.ordered in
        lists_and_ends rank levels top places laws m listed questions r k w answered free (omega arith)
    list_it (s ∷ rs') k w answered free true t =
        let le = leb-true r.hi r.lo t in let ordered = w.shape.ordered in
        lists_and_drops rank levels top places laws m listed questions r s rs' k w answered free (omega arith)

    pub after_answered : (k : K) → Walks rank levels top places m r rs (Some (rank k)) listed questions → hush_answer m k ≡ true
        → Stands rank levels top places (hushed rank m k) (after_yes places (rank k) r rs (walking r rs (Some (rank k)) listed questions))
    after_answered k w answered =
        cond_both (is_in (rank k) listed) _ _ (Stands rank levels top places (hushed rank m k)) (λ is. absurd (both_ways _ w.due.2 is))
        (λ _. cond_both (ltb (length listed) places) _ _ (Stands rank levels top places (hushed rank m k))
        (λ free. list_it rs k w answered (ltb-true _ _ free) (is_one r) refl)
        (λ full. overflows rank levels top places laws m listed questions r rs k w answered (ltb-false _ _ full)))

    -- After an honest answer to a hush.
    pub after_honest_hush : (k : K) → Walks rank levels top places m r rs (Some (rank k)) listed questions
        → (answered : Bool) → hush_answer m k ≡ answered
        → Stands rank levels top places (hushed rank m k) (after_hush places (rank k) r rs answered (walking r rs (Some (rank k)) listed questions))
    after_honest_hush k w true is = after_answered k w is
    after_honest_hush k w false is =
        subst (λ n. Stands rank levels top places n (after_no r rs (walking r rs (Some (rank k)) listed questions))) (sym (hushed_unanswered rank m k is)) (after_unanswered k w is)

  module _ (m n : Meaning K) (v : Walk) where
    -- What stands, stands after each honest answer; by the parts of the walk.
    step_by_parts : (phase : Phase) (pending : List (Range ℕ)) (hushing : Option ℕ) (listed : List ℕ) (questions : ℕ)
        → StandsIn rank levels top places phase pending m hushing listed questions
        → (a : Answer K)
        → Honest rank m (record { phase = phase; pending = pending; hushing = hushing; listed = listed; questions = questions }) a n
        → v ≡ heard places (record { phase = phase; pending = pending; hushing = hushing; listed = listed; questions = questions }) (answer_ranks rank a)
        → Stands rank levels top places n v
    step_by_parts Walking (r ∷ rs) None listed questions w a (to_probe range p asks honest told same) is =
        let e : r ≡ range_ranks rank range = cc in
        let done = after_honest_probe m r rs listed questions range p e honest w in
        let heard_is =
        is
        ∙ ap (λ x. heard places (walking r rs None listed questions) (answer_ranks rank x)) told
        ∙ probe_is_heard m r rs listed questions (probe_ranks rank p) w in
        subst (λ x. Stands rank levels top places x v) (sym same) (subst (Stands rank levels top places m) (sym heard_is) done)
    step_by_parts Walking (r ∷ rs) (Some j) listed questions w a (to_hush k asks told same) is =
        let e : j ≡ rank k = cc in
        let w' = subst (λ i. Walks rank levels top places m r rs (Some i) listed questions) e w in
        let done = after_honest_hush m r rs listed questions k w' (hush_answer m k) refl in
        let is' =
        is
        ∙ ap (λ x. heard places (walking r rs (Some j) listed questions) (answer_ranks rank x)) told
        ∙ ap (λ i. heard places (walking r rs (Some i) listed questions) (answer.Hush (hush_answer m k))) e in
        let heard_is = is' ∙ hush_is_heard m r rs listed questions (rank k) (hush_answer m k) w' in
        subst (λ x. Stands rank levels top places x v) (sym same) (subst (Stands rank levels top places (hushed rank m k)) (sym heard_is) done)
    step_by_parts Walking (r ∷ rs) None listed questions w a (to_hush k asks told same) is = cc
    step_by_parts Walking (r ∷ rs) (Some j) listed questions w a (to_probe range p asks honest told same) is = cc
    step_by_parts Walking [] hushing listed questions w a honest is = absurd w
    step_by_parts Walked pending hushing listed questions w a (to_probe range p asks honest told same) is = cc
    step_by_parts Walked pending hushing listed questions w a (to_hush k asks told same) is = cc
    step_by_parts Full pending hushing listed questions w a (to_probe range p asks honest told same) is = cc
    step_by_parts Full pending hushing listed questions w a (to_hush k asks told same) is = cc
    step_by_parts Laid pending hushing listed questions w a honest is = absurd w
    step_by_parts Set pending hushing listed questions w a honest is = absurd w
    step_by_parts Contradicted pending hushing listed questions w a honest is = absurd w

  pub step_stands : (m n : Meaning K) (w v : Walk) → Stands rank levels top places m w → Step rank places m w n v → Stands rank levels top places n v
  step_stands m n w v stands step = step_by_parts m n v w.phase w.pending w.hushing w.listed w.questions stands step.reply step.honest step.is_heard

  probe_counts : (r : Range ℕ) (rs : List (Range ℕ)) (p : ProbeAnswer ℕ) (w : Walk) → (after_probe r rs p w).questions ≡ suc w.questions
  probe_counts r rs Silent w = refl
  probe_counts r rs (Clear k) w =
      cond_both (is_one r) _ _ (λ (v : Walk). v.questions ≡ suc w.questions) (λ _. refl)
      (λ _. cond_both (in_range k r && not (is_in k w.listed)) _ _ (λ (v : Walk). v.questions ≡ suc w.questions) (λ _. refl) (λ _. refl))
  probe_counts r rs Garbled w = cond_both (is_one r) _ _ (λ (v : Walk). v.questions ≡ suc w.questions) (λ _. refl) (λ _. refl)

  hush_counts : (k : ℕ) (r : Range ℕ) (rs : List (Range ℕ)) (replied : Bool) (w : Walk) → (after_hush places k r rs replied w).questions ≡ suc w.questions
  hush_counts k r rs true w =
      cond_both (is_in k w.listed) _ _ (λ (v : Walk). v.questions ≡ suc w.questions) (λ _. refl)
      (λ _. cond_both (ltb (length w.listed) places) _ _ (λ (v : Walk). v.questions ≡ suc w.questions) (λ _. refl) (λ _. refl))
  hush_counts k r rs false w = cond_both (is_one r) _ _ (λ (v : Walk). v.questions ≡ suc w.questions) (λ _. refl) (λ _. refl)

  -- Each honest answer is heard: it counts one question.
  counts_by_parts : (m n : Meaning K) (v : Walk) (phase : Phase) (pending : List (Range ℕ)) (hushing : Option ℕ) (listed : List ℕ) (questions : ℕ)
      → StandsIn rank levels top places phase pending m hushing listed questions
      → (a : Answer K)
      → Honest rank m (record { phase = phase; pending = pending; hushing = hushing; listed = listed; questions = questions }) a n
      → v ≡ heard places (record { phase = phase; pending = pending; hushing = hushing; listed = listed; questions = questions }) (answer_ranks rank a)
      → v.questions ≡ suc questions
  counts_by_parts m n v Walking (r ∷ rs) None listed questions w a (to_probe range p asks honest told same) is =
      ap (λ (x : Walk). x.questions)
      (is
      ∙ ap (λ x. heard places (walking r rs None listed questions) (answer_ranks rank x)) told
      ∙ probe_is_heard m r rs listed questions (probe_ranks rank p) w)
      ∙ probe_counts r rs (probe_ranks rank p) (walking r rs None listed questions)
  counts_by_parts m n v Walking (r ∷ rs) (Some j) listed questions w a (to_hush k asks told same) is =
      ap (λ (x : Walk). x.questions)
      (is
      ∙ ap (λ x. heard places (walking r rs (Some j) listed questions) (answer_ranks rank x)) told
      ∙ hush_is_heard m r rs listed questions j (hush_answer m k) w)
      ∙ hush_counts j r rs (hush_answer m k) (walking r rs (Some j) listed questions)
  counts_by_parts m n v Walking (r ∷ rs) None listed questions w a (to_hush k asks told same) is = cc
  counts_by_parts m n v Walking (r ∷ rs) (Some j) listed questions w a (to_probe range p asks honest told same) is = cc
  counts_by_parts m n v Walking [] hushing listed questions w a honest is = absurd w
  counts_by_parts m n v Walked pending hushing listed questions w a (to_probe range p asks honest told same) is = cc
  counts_by_parts m n v Walked pending hushing listed questions w a (to_hush k asks told same) is = cc
  counts_by_parts m n v Full pending hushing listed questions w a (to_probe range p asks honest told same) is = cc
  counts_by_parts m n v Full pending hushing listed questions w a (to_hush k asks told same) is = cc
  counts_by_parts m n v Laid pending hushing listed questions w a honest is = absurd w
  counts_by_parts m n v Set pending hushing listed questions w a honest is = absurd w
  counts_by_parts m n v Contradicted pending hushing listed questions w a honest is = absurd w

  pub step_counts : (m n : Meaning K) (w v : Walk) → Stands rank levels top places m w → Step rank places m w n v → v.questions ≡ suc w.questions
  step_counts m n w v stands step = counts_by_parts m n v w.phase w.pending w.hushing w.listed w.questions stands step.reply step.honest step.is_heard

  -- And after any number of them.
  pub steps_stand : (m : Meaning K) (w : Walk) (i : ℕ) (n : Meaning K) (v : Walk) → Stands rank levels top places m w → Steps rank places m w i n v
      → Stands rank levels top places n v
  steps_stand m w i n v stands no_step = stands
  steps_stand m w i n v stands (then_step {n = n'} {v = v'} steps step) = step_stands n' n v' v (steps_stand m w _ n' v' stands steps) step
