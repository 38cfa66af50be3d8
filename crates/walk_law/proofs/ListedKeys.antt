-- What an honest answer lists.
use Rattle.std.proofs.Common.{◌≡◌, ℕ, ◌^◌, ◌<◌, ◌≤◌, Bool, true, false, cond, not, ◌&&◌, ltb, List, [], ◌∷◌, length, Some, None, Option, sym, refl, ap, ◌∙◌, subst}
use Rattle.std.proofs.lemmas.Bool.{cond_both, lt-leb, ltb-true, and_parts}
use Rattle.keys.specs.declared.range.Range.{Range}
use Rattle.lines.specs.Meaning.{Meaning}
use Rattle.lines.specs.Rules.{hush_answer}
use Rattle.lines.specs.declared.answers.ProbeAnswer.{ProbeAnswer}
use Rattle.lines.specs.declared.answers.ProbeAnswer.TheVariants.{Silent, Clear, Garbled}
use Rattle.walk_law.specs.Listing.{is_new, lists_key}
use Rattle.walk_law.specs.Ranks.{is_in, put_in}
use Rattle.walk_law.specs.Run.{Honest, to_probe, to_hush, probe_ranks, answer_ranks}
use Rattle.walk_law.specs.Walk.{Walk, walking, heard, after_probe, after_yes, after_no, is_one, in_range}
use Rattle.walk_law.specs.declared.phase.Phase.{Phase}
use Rattle.walk_law.specs.declared.phase.Phase.TheVariants.{Walking, Walked, Laid, Set, Full, Contradicted}
use Rattle.walk_law.specs.declared.question.Answer.{Answer}
use Rattle.walk_law.specs.declared.question.Answer.TheVariants as answer
use Rattle.walk_law.proofs.Going.{not_spent, probe_is_heard, hush_is_heard}
use Rattle.walk_law.proofs.Listing.{Laws}
use Rattle.walk_law.proofs.Standing.{Walks, Stands, StandsIn}

probe_lists_none : (r : Range ℕ) (rs : List (Range ℕ)) (p : ProbeAnswer ℕ) (w : Walk) → (after_probe r rs p w).listed ≡ w.listed
probe_lists_none r rs Silent w = refl
probe_lists_none r rs (Clear k) w =
    cond_both (is_one r) _ _ (λ (v : Walk). v.listed ≡ w.listed) (λ _. refl)
    (λ _. cond_both (in_range k r && not (is_in k w.listed)) _ _ (λ (v : Walk). v.listed ≡ w.listed) (λ _. refl) (λ _. refl))
probe_lists_none r rs Garbled w = cond_both (is_one r) _ _ (λ (v : Walk). v.listed ≡ w.listed) (λ _. refl) (λ _. refl)

hush_lists : (places k : ℕ) (r : Range ℕ) (rs : List (Range ℕ)) (w : Walk) → (after_yes places k r rs w).listed ≡ cond (is_new places k w.listed) (put_in k w.listed) w.listed
hush_lists places k r rs w = by (is_in k w.listed) (ltb (length w.listed) places) refl refl
  where
    by : (t f : Bool) → is_in k w.listed ≡ t → ltb (length w.listed) places ≡ f → (after_yes places k r rs w).listed ≡ cond (is_new places k w.listed) (put_in k w.listed) w.listed
    by true f e g = rw e
    by false true e g = rw (e, g)
    by false false e g = rw (e, g)

no_lists_none : (r : Range ℕ) (rs : List (Range ℕ)) (w : Walk) → (after_no r rs w).listed ≡ w.listed
no_lists_none r rs w = cond_both (is_one r) _ _ (λ (v : Walk). v.listed ≡ w.listed) (λ _. refl) (λ _. refl)

module _ {K : Type 0} (rank : K → ℕ) (levels top places : ℕ) (laws : Laws rank levels top) (few_places : places ≤ 65536)
    (m : Meaning K) (r : Range ℕ) (rs : List (Range ℕ)) (listed : List ℕ) (questions : ℕ) where
  -- A probe lists nothing.
  pub probe_lists : (p : ProbeAnswer ℕ) → Walks rank levels top places m r rs None listed questions
      → ((heard places (walking r rs None listed questions) (answer.Probe p)).listed ≡ listed)
      × (lists_key places (walking r rs None listed questions) (answer.Probe p) ≡ false)
  unfolding lists_key
  probe_lists p w = (
    ap (λ (v : Walk). v.listed) (probe_is_heard rank levels top places laws few_places m r rs listed questions p w) ∙ probe_lists_none r rs p (walking r rs None listed questions),
    rw (lt-leb (2 ^ 24) questions (not_spent rank levels top places laws few_places m r rs listed questions None w)),
  )

  -- A hush lists its key, if that replied, is new, and has a place.
  pub hush_lists_key : (k : ℕ) (replied : Bool) → Walks rank levels top places m r rs (Some k) listed questions
      → ((heard places (walking r rs (Some k) listed questions) (answer.Hush replied)).listed
      ≡ cond (lists_key places (walking r rs (Some k) listed questions) (answer.Hush replied)) (put_in k listed) listed)
      × (lists_key places (walking r rs (Some k) listed questions) (answer.Hush replied) ≡ true → ltb (length listed) places ≡ true)
  unfolding lists_key
  hush_lists_key k true w =
      let heard-is = ap (λ (v : Walk). v.listed) (hush_is_heard rank levels top places laws few_places m r rs listed questions k true w) in
      let counted = lt-leb (2 ^ 24) questions (not_spent rank levels top places laws few_places m r rs listed questions (Some k) w) in
      (heard-is ∙ rw counted (hush_lists places k r rs (walking r rs (Some k) listed questions)), rw counted (λ new. (and_parts (not (is_in k listed)) (ltb (length listed) places) new).1))
  hush_lists_key k false w =
      let heard-is = ap (λ (v : Walk). v.listed) (hush_is_heard rank levels top places laws few_places m r rs listed questions k false w) in
      let counted = lt-leb (2 ^ 24) questions (not_spent rank levels top places laws few_places m r rs listed questions (Some k) w) in
      (heard-is ∙ rw counted (no_lists_none r rs (walking r rs (Some k) listed questions)), rw counted (λ new. cc))

-- What becomes of the listed keys: as they were, or with the key whose hush was next.
pub data Outcome {K : Type 0} (rank : K → ℕ) (places : ℕ) (w : Walk) (a : Answer ℕ) : Type 0 where
  lists_none : lists_key places w a ≡ false → (heard places w a).listed ≡ w.listed → Outcome rank places w a
  lists_one : (k : K) → w.hushing ≡ Some (rank k) → lists_key places w a ≡ true → (heard places w a).listed ≡ put_in (rank k) w.listed → length w.listed < places
      → Outcome rank places w a

module _ {K : Type 0} (rank : K → ℕ) (levels top places : ℕ) (laws : Laws rank levels top) (few_places : places ≤ 65536) (m n : Meaning K) where
  by_hush : (r : Range ℕ) (rs : List (Range ℕ)) (listed : List ℕ) (questions : ℕ) (k : K) (replied : Bool)
      → Walks rank levels top places m r rs (Some (rank k)) listed questions
      → Outcome rank places (walking r rs (Some (rank k)) listed questions) (answer.Hush replied)
  by_hush r rs listed questions k replied w = by (lists_key places (walking r rs (Some (rank k)) listed questions) (answer.Hush replied)) refl
    where
      told : ((heard places (walking r rs (Some (rank k)) listed questions) (answer.Hush replied)).listed
          ≡ cond (lists_key places (walking r rs (Some (rank k)) listed questions) (answer.Hush replied)) (put_in (rank k) listed) listed)
          × (lists_key places (walking r rs (Some (rank k)) listed questions) (answer.Hush replied) ≡ true → ltb (length listed) places ≡ true)
      told = hush_lists_key rank levels top places laws few_places m r rs listed questions (rank k) replied w

      by : (t : Bool) → lists_key places (walking r rs (Some (rank k)) listed questions) (answer.Hush replied) ≡ t
          → Outcome rank places (walking r rs (Some (rank k)) listed questions) (answer.Hush replied)
      by true e = lists_one k refl e (told.0 ∙ ap (λ t. cond t (put_in (rank k) listed) listed) e) (ltb-true _ _ (told.1 e))
      by false e = lists_none e (told.0 ∙ ap (λ t. cond t (put_in (rank k) listed) listed) e)

  by_parts : (phase : Phase) (pending : List (Range ℕ)) (hushing : Option ℕ) (listed : List ℕ) (questions : ℕ)
      → StandsIn rank levels top places phase pending m hushing listed questions
      → (a : Answer K)
      → Honest rank m (record { phase = phase; pending = pending; hushing = hushing; listed = listed; questions = questions }) a n
      → Outcome rank places (record { phase = phase; pending = pending; hushing = hushing; listed = listed; questions = questions }) (answer_ranks rank a)
  by_parts Walking (r ∷ rs) None listed questions w a (to_probe range p asks honest told same) =
      let is = probe_lists rank levels top places laws few_places m r rs listed questions (probe_ranks rank p) w in
      subst (λ x. Outcome rank places (walking r rs None listed questions) (answer_ranks rank x)) (sym told) (lists_none is.1 is.0)
  by_parts Walking (r ∷ rs) (Some j) listed questions w a (to_hush k asks told same) =
      let e : j ≡ rank k = cc in
      let w' = subst (λ i. Walks rank levels top places m r rs (Some i) listed questions) e w in
      subst (λ x. Outcome rank places (walking r rs (Some j) listed questions) (answer_ranks rank x)) (sym told)
      (subst (λ i. Outcome rank places (walking r rs (Some i) listed questions) (answer.Hush (hush_answer m k))) (sym e) (by_hush r rs listed questions k (hush_answer m k) w'))
  by_parts Walking (r ∷ rs) None listed questions w a (to_hush k asks told same) = cc
  by_parts Walking (r ∷ rs) (Some j) listed questions w a (to_probe range p asks honest told same) = cc
  by_parts Walking [] hushing listed questions w a honest = absurd w
  by_parts Walked pending hushing listed questions w a (to_probe range p asks honest told same) = cc
  by_parts Walked pending hushing listed questions w a (to_hush k asks told same) = cc
  by_parts Full pending hushing listed questions w a (to_probe range p asks honest told same) = cc
  by_parts Full pending hushing listed questions w a (to_hush k asks told same) = cc
  by_parts Laid pending hushing listed questions w a honest = absurd w
  by_parts Set pending hushing listed questions w a honest = absurd w
  by_parts Contradicted pending hushing listed questions w a honest = absurd w

  pub outcome : (w : Walk) (a : Answer K) → Stands rank levels top places m w → Honest rank m w a n → Outcome rank places w (answer_ranks rank a)
  outcome w a stands honest = by_parts w.phase w.pending w.hushing w.listed w.questions stands a honest
