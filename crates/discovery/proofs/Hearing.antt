-- From the code of hearing to its definition.
use Rattle.std.proofs.Common.{◌≡◌, ℕ, ◌^◌, ◌<◌, ◌≤◌, ◌⊎◌, true, false, cond, ltb, leb, List, [], ◌∷◌, length, Some, None, Err, Option, sym, refl, ap, ◌∙◌, inl, inr, arith}
use Rattle.std.proofs.lemmas.Bool.{le-leb, leb-false, cond-true, cases_Bool}
use Rattle.std.specs.Option.{option_map}
use Rattle.keys.specs.declared.range.Range.{Range}
use Rattle.refusals.specs.declared.Refusal.{Refusal}
use Rattle.refusals.specs.declared.Refusal.TheVariants.{QuestionsSpent, OtherKind}
use Rattle.walk_law.specs.Listing.{lists_in, unless_refusal, lists_key}
use Rattle.walk_law.specs.Ranks.{is_in, put_in}
use Rattle.walk_law.specs.Run.{answer_ranks}
use Rattle.walk_law.specs.Walk.{Walk, walking, in_memory, after_yes, after_answer, is_one, ended, is_other_kind, refusal_in, refusal_of, unless_refused, heard, told, told_unless, hearing_told, most_pending}
use Rattle.walk_law.specs.declared.phase.Phase.{Phase}
use Rattle.walk_law.specs.declared.phase.Phase.TheVariants.{Walking, Walked, Laid, Set, Full, Contradicted}
use Rattle.walk_law.specs.declared.question.Answer.{Answer}
use Rattle.discovery.specs.Courses.{LeadsAs, taken}
use Rattle.discovery.specs.Pending.{without_first, first_of}
use Rattle.discovery.specs.declared.walk.course.Course.{Course}
use Rattle.discovery.specs.declared.walk.course.Course.TheVariants.{Drop, Probe}

-- A key that was hushed and listed: its range is probed again, unless it is of one key.
module _ (places k : ℕ) (r : Range ℕ) (before after : List ℕ) (new : is_in k before ≡ false) (free : ltb (length before) places ≡ true) (lists : after ≡ put_in k before) where
  pub probes_again : is_one r ≡ false → LeadsAs (after_yes places k) r before after Probe
  probes_again several rs hushing questions room = rw (new, free, several, le-leb _ most_pending room, lists) refl

  pub drops_it : is_one r ≡ true → LeadsAs (after_yes places k) r before after Drop
  drops_it one rs hushing questions room = rw (new, free, one, le-leb (length rs) most_pending (omega arith), lists) refl

-- The lowest pending range, and those behind it.
lowest_first : (pending : List (Range ℕ)) (r : Range ℕ) → first_of pending ≡ Some r → pending ≡ r ∷ without_first pending
lowest_first [] r e = cc
lowest_first (s ∷ rs) r e = let same : s ≡ r = cc in ap (λ x. x ∷ rs) same

none_first : (pending : List (Range ℕ)) → first_of pending ≡ None → pending ≡ []
none_first [] e = refl
none_first (r ∷ rs) e = cc

-- A walk in its memory stays in it.
pub stands_still : (w : Walk) → length w.pending ≤ 49 → w ≡ in_memory w w
stands_still w few = sym (cond-true _ w (ended Contradicted w) (le-leb _ 49 few))

-- A walking walk, and its lowest pending range.
module _ (w : Walk) (r : Range ℕ) (lowest : first_of w.pending ≡ Some r) where
  behind : w.pending ≡ r ∷ without_first w.pending
  behind = lowest_first w.pending r lowest

  -- What an answer makes of it, by the question that was next.
  pub answer_as : {K : Type 0} (rank : K → ℕ) (places : ℕ) (hushing hushing' : Option K) (a b : Answer K) → hushing ≡ hushing' → a ≡ b
      → after_answer places w.pending (option_map rank hushing) (answer_ranks rank a) w
      ≡ after_answer places (r ∷ without_first w.pending) (option_map rank hushing') (answer_ranks rank b) w
  answer_as rank places hushing hushing' a b h e = λ i. after_answer places (behind i) (option_map rank (h i)) (answer_ranks rank (e i)) w

  -- A course that leads as a rule of the law does.
  module _ (walks : w.phase ≡ Walking) (few : length w.pending ≤ 49) where
    abbrev listing : List ℕ → Walk
    listing listed = record { phase = w.phase; pending = w.pending; hushing = w.hushing; listed = listed; questions = w.questions }

    is_walking : (listed : List ℕ) → listing listed ≡ walking r (without_first w.pending) w.hushing listed w.questions
    is_walking listed = λ i. record { phase = walks i; pending = behind i; hushing = w.hushing; listed = listed; questions = w.questions }

    pub course_leads : (rule : Range ℕ → List (Range ℕ) → Walk → Walk) (before after : List ℕ) (course : Course ℕ) → LeadsAs rule r before after course
        → taken course (listing after) ≡ in_memory (listing before) (rule r (without_first w.pending) (listing before))
    course_leads rule before after course leads =
        ap (taken course) (is_walking after)
        ∙ sym (leads (without_first w.pending) w.hushing w.questions (let size = ap length behind in omega arith))
        ∙ ap (λ v. in_memory v (rule r (without_first w.pending) v)) (sym (is_walking before))

-- And where no range is pending.
pub answer_to_none : (w : Walk) → first_of w.pending ≡ None → (places : ℕ) (hushing : Option ℕ) (a : Answer ℕ) → after_answer places w.pending hushing a w ≡ w
answer_to_none w none places hushing a = ap (λ pending. after_answer places pending hushing a w) (none_first w.pending none)

-- Answers that are refused, and those that are not.
module _ (places : ℕ) (w : Walk) (a : Answer ℕ) where
  module _ (refusal : Refusal) (is : refusal_of w a ≡ Some refusal) where
    pub refused_walk : heard places w a ≡ w
    unfolding heard
    refused_walk = ap (λ o. unless_refused o w (in_memory w (after_answer places w.pending w.hushing a w))) is

    pub refused_told : hearing_told places w a ≡ Err refusal
    unfolding hearing_told
    refused_told = ap (λ o. told_unless o (heard places w a).phase) is

    pub refused_lists : lists_key places w a ≡ false
    unfolding lists_key
    refused_lists = ap (λ o. unless_refusal o (lists_in places w.pending w.hushing a w.listed)) is

  module _ (is : refusal_of w a ≡ None) where
    pub unrefused_walk : heard places w a ≡ in_memory w (after_answer places w.pending w.hushing a w)
    unfolding heard
    unrefused_walk = ap (λ o. unless_refused o w (in_memory w (after_answer places w.pending w.hushing a w))) is

    pub unrefused_told : hearing_told places w a ≡ told (heard places w a).phase
    unfolding hearing_told
    unrefused_told = ap (λ o. told_unless o (heard places w a).phase) is

    pub unrefused_lists : lists_key places w a ≡ lists_in places w.pending w.hushing a w.listed
    unfolding lists_key
    unrefused_lists = ap (λ o. unless_refusal o (lists_in places w.pending w.hushing a w.listed)) is

-- An answer that is not refused finds the walk walking, with questions left.
pub unrefused : (phase : Phase) (questions : ℕ) (hushing : Option ℕ) (a : Answer ℕ) → refusal_in phase questions hushing a ≡ None
    → (questions < 2 ^ 24) × (phase ≡ Walking)
unrefused Walking questions hushing a is = (by_count (cases_Bool (leb (2 ^ 24) questions)), refl)
  where
    by_count : (leb (2 ^ 24) questions ≡ true) ⊎ (leb (2 ^ 24) questions ≡ false) → questions < 2 ^ 24
    by_count (inr few) = leb-false _ _ few
    by_count (inl spent) =
        absurd (let some : Some QuestionsSpent ≡ None = sym (cond-true (leb (2 ^ 24) questions) (Some QuestionsSpent) (cond (is_other_kind hushing a) (Some OtherKind) None) spent) ∙ is in let z : ◌≡◌ {A = ℕ} 0 1 = cc in omega arith)
unrefused Walked questions hushing a is = absurd (let z : ◌≡◌ {A = ℕ} 0 1 = cc in omega arith)
unrefused Laid questions hushing a is = absurd (let z : ◌≡◌ {A = ℕ} 0 1 = cc in omega arith)
unrefused Set questions hushing a is = absurd (let z : ◌≡◌ {A = ℕ} 0 1 = cc in omega arith)
unrefused Full questions hushing a is = absurd (let z : ◌≡◌ {A = ℕ} 0 1 = cc in omega arith)
unrefused Contradicted questions hushing a is = absurd (let z : ◌≡◌ {A = ℕ} 0 1 = cc in omega arith)
