-- The law of the walk, from what holds from answer to answer.
use Rattle.std.proofs.Common.{◌≡◌, ℕ, suc, ◌+◌, ◌*◌, ◌^◌, ◌<◌, ◌≤◌, true, false, eqb, ◌⊎◌, List, [], ◌∷◌, map, length, is_some, Some, None, Option, Result, sym, refl, ap, ◌∙◌, subst, subst₂, inl, inr, mul-le-mul, arith}
use Rattle.std.proofs.ByRecursion.{All-weaker}
use Rattle.std.proofs.lemmas.List.{length-map}
use Rattle.std.proofs.lemmas.Bool.{both_ways, cases_Bool, or_right, or_left, or_cases, eq-eqb, eqb-true}
use Rattle.std.specs.List.{AllByRecursion}
use Rattle.keys.specs.declared.range.Range.{Range}
use Rattle.lines.specs.Meaning.{Meaning, is_fitted}
use Rattle.refusals.specs.declared.Refusal.{Refusal}
use Rattle.walk_law.specs.Law.{Answered, at_first, then_heard, Reached, ListsExactly, MoreFittedThan, KeepsInBounds, FindsEveryFixture, LeadsOn}
use Rattle.walk_law.specs.Ranks.{is_in, put_in, Ascends}
use Rattle.walk_law.specs.Run.{Honest, Step, then_step, answer_ranks}
use Rattle.walk_law.specs.Walk.{Walk, begun, asked_in, heard, refusal_of, told, hearing_told, told_unless, unless_refused, in_memory, after_answer}
use Rattle.walk_law.specs.declared.phase.Phase.{Phase}
use Rattle.walk_law.specs.declared.phase.Phase.TheVariants.{Walking, Walked, Laid, Set, Full, Contradicted}
use Rattle.walk_law.specs.declared.question.Answer.{Answer}
use Rattle.walk_law.proofs.AnyAnswer.{Kept, kept_heard, shape_over, pending_few, heard_is_by_rules}
use Rattle.walk_law.proofs.Going.{asked_less, steps_stand, step_counts}
use Rattle.walk_law.proofs.Listing.{Laws, listing_none}
use Rattle.walk_law.proofs.NestedRanges.{tested, nested_all}
use Rattle.walk_law.proofs.RankLists.{is_in_put_in, length-put_in, ascends_put_in, all_put_in, length-within}
use Rattle.walk_law.proofs.Standing.{Found, Overflows, Stands, StandsIn, begins}

module _ (levels top places : ℕ) (few_levels : levels ≤ 48) (narrow : top < 2 ^ levels) where
  pub answered_kept : (w : Walk) → Answered top places w → Kept levels top places few_levels w
  answered_kept w at_first = record {
    shape = shape_over levels top places few_levels (record { lo = 0; hi = top } ∷ []) (tested levels top _ [] (nested_all levels top narrow));
    ascends = tt;
    fits = omega arith;
  }
  answered_kept w (then_heard {w = v} a before) = kept_heard levels top places few_levels v a (answered_kept v before)

  -- Whatever is answered.
  pub in_bounds : (w : Walk) → Answered top places w → KeepsInBounds levels places w
  in_bounds w answered =
      let k = answered_kept w answered in
      record {
        few_ranges_pending = pending_few levels top places few_levels w.phase w.pending k.shape;
        memory_suffices = λ a. heard_is_by_rules levels top places few_levels w a k;
        book_ascends = k.ascends;
        book_has_places = k.fits;
      }

module _ {K : Type 0} (rank : K → ℕ) (levels top places : ℕ) (laws : Laws rank levels top) (few_places : places ≤ 65536) where
  pub reached_stands : (m : Meaning K) (w : Walk) → Reached rank top places m w → Stands rank levels top places m w
  reached_stands m w reached =
      let at_first = begins rank levels top places laws reached.start (listing_none rank top places reached.start reached.start_live reached.start_awake) in
      steps_stand rank levels top places laws few_places reached.start (begun top) reached.answers m w at_first reached.steps

  -- Ranks of the family are those of keys.
  keys_of : (xs : List ℕ) → AllByRecursion (λ j. j ≤ top) xs → (ks : List K) × (map rank ks ≡ xs)
  keys_of [] within = ([], refl)
  keys_of (x ∷ xs) (le, within) =
      let here = laws.every x le in
      let rest = keys_of xs within in
      (here.0 ∷ rest.0, λ i. here.1 i ∷ rest.1 i)

  all_of : (P : ℕ → Type 0) (ks : List K) → AllByRecursion P (map rank ks) → AllByRecursion (λ k. P (rank k)) ks
  all_of P [] all = tt
  all_of P (k ∷ ks) (here, all) = (here, all_of P ks all)

  of_all : (P : ℕ → Type 0) (ks : List K) → AllByRecursion (λ k. P (rank k)) ks → AllByRecursion P (map rank ks)
  of_all P [] all = tt
  of_all P (k ∷ ks) (here, all) = (here, of_all P ks all)

  in_itself : (xs ys : List ℕ) → ((j : ℕ) → is_in j xs ≡ true → is_in j ys ≡ true) → AllByRecursion (λ j. is_in j ys ≡ true) xs
  unfolding is_in
  in_itself [] ys sub = tt
  in_itself (x ∷ xs) ys sub =
      (sub x (or_left _ _ (eq-eqb x x refl)), in_itself xs ys (λ j is. sub j (or_right (eqb j x) (is_in j xs) is)))

  -- Full: the keys listed and the one beyond them are fitted.
  pub more_fitted : (m : Meaning K) (listed : List ℕ) (questions : ℕ) → Overflows rank levels top places m listed questions → MoreFittedThan rank m places
  more_fitted m listed questions o =
      let extra = rank o.extra in
      let all = put_in extra listed in
      let found = keys_of all (all_put_in (λ j. j ≤ top) extra listed (laws.within o.extra) o.within) in
      let in_all = all_of (λ j. is_in j all ≡ true) found.0 (subst (AllByRecursion (λ j. is_in j all ≡ true)) (sym found.1) (in_itself all all (λ j is. is))) in
      record {
        keys = found.0;
        count = sym (length-map found.0 rank) ∙ ap length found.1 ∙ length-put_in extra listed ∙ ap suc o.full;
        different = subst Ascends (sym found.1) (ascends_put_in 0 extra listed o.ascends (omega arith) o.extra_new);
        all_fitted = All-weaker _ _ (λ k is. by_which k (or_cases _ _ (sym (is_in_put_in (rank k) extra listed) ∙ is))) found.0 in_all;
      }
    where
      by_which : (k : K) → (eqb (rank k) (rank o.extra) ≡ true) ⊎ (is_in (rank k) listed ≡ true) → is_fitted m k ≡ true
      by_which k (inl is) = ap (is_fitted m) (laws.same k o.extra (eqb-true _ _ is)) ∙ o.extra_fitted
      by_which k (inr is) = o.listed_fitted k is

  module _ (m : Meaning K) (listed : List ℕ) (questions : ℕ) (f : Found rank levels top places m listed questions) where
    -- Walked: a fitted key is listed, since none is awake.
    is_listed : (k : K) → is_fitted m k ≡ true → is_in (rank k) listed ≡ true
    is_listed k fitted = by (cases_Bool (is_in (rank k) listed))
      where
        by : (is_in (rank k) listed ≡ true) ⊎ (is_in (rank k) listed ≡ false) → is_in (rank k) listed ≡ true
        by (inl is) = is
        by (inr out) = absurd (both_ways _ (f.none_awake k) (f.book.awake_or_listed k fitted out))

    pub lists_exactly : ListsExactly rank m listed
    lists_exactly = record { ascending = f.book.ascends; every_fitted_key = is_listed; no_other_key = f.book.listed_fitted }

    pub not_more_fitted : MoreFittedThan rank m places → ⊥
    not_more_fitted more =
        let ranks = map rank more.keys in
        let within = of_all (λ j. is_in j listed ≡ true) more.keys (All-weaker _ _ is_listed more.keys more.all_fitted) in
        let short = length-within 0 listed ranks f.book.ascends more.different within in
        let long = length-map more.keys rank ∙ more.count in
        let fits = f.book.fits in
        omega arith

  law_by_parts : (m : Meaning K) (phase : Phase) (pending : List (Range ℕ)) (hushing : Option ℕ) (listed : List ℕ) (questions : ℕ)
      → StandsIn rank levels top places phase pending m hushing listed questions
      → FindsEveryFixture rank levels places m (record { phase = phase; pending = pending; hushing = hushing; listed = listed; questions = questions })
  law_by_parts m Walking (r ∷ rs) hushing listed questions w =
      let less = asked_less rank levels top places laws few_places m r rs listed questions hushing w in
      let fits = w.book.fits in
      let grows : suc (length listed) * (3 * levels + 2) ≤ suc places * (3 * levels + 2) = mul-le-mul {n₂ = suc places} {m₂ = 3 * levels + 2} (omega arith) (omega arith) in
      record {
        walked_lists_every_fitted_key_once = λ is. cc;
        asks_few_questions = omega arith;
        walking_has_a_question = λ _. asks hushing;
        still_walking_asked_less = λ _. omega arith;
        ends_walked_or_full = inl refl;
        full_if_more_fitted_than_places = λ is. cc;
        walked_if_not_more_fitted = λ is. cc;
      }
    where
      asks : (h : Option ℕ) → is_some (asked_in Walking (r ∷ rs) h) ≡ true
      asks None = refl
      asks (Some k) = refl
  law_by_parts m Walked pending hushing listed questions f = record {
    walked_lists_every_fitted_key_once = λ _. lists_exactly m listed questions f;
    asks_few_questions = f.few;
    walking_has_a_question = λ is. cc;
    still_walking_asked_less = λ is. cc;
    ends_walked_or_full = inr (inl refl);
    full_if_more_fitted_than_places = λ is. cc;
    walked_if_not_more_fitted = λ _. not_more_fitted m listed questions f;
  }
  law_by_parts m Full pending hushing listed questions o = record {
    walked_lists_every_fitted_key_once = λ is. cc;
    asks_few_questions = o.few;
    walking_has_a_question = λ is. cc;
    still_walking_asked_less = λ is. cc;
    ends_walked_or_full = inr (inr refl);
    full_if_more_fitted_than_places = λ _. more_fitted m listed questions o;
    walked_if_not_more_fitted = λ is. cc;
  }
  law_by_parts m Walking [] hushing listed questions w = absurd w
  law_by_parts m Laid pending hushing listed questions w = absurd w
  law_by_parts m Set pending hushing listed questions w = absurd w
  law_by_parts m Contradicted pending hushing listed questions w = absurd w

  pub stands_finds : (m : Meaning K) (w : Walk) → Stands rank levels top places m w → FindsEveryFixture rank levels places m w
  stands_finds m w stands = law_by_parts m w.phase w.pending w.hushing w.listed w.questions stands

  -- On a line.
  pub finds_every_fixture : (m : Meaning K) (w : Walk) → Reached rank top places m w → FindsEveryFixture rank levels places m w
  finds_every_fixture m w reached = stands_finds m w (reached_stands m w reached)

  -- An honest answer leads on.
  module _ (m n : Meaning K) (w : Walk) (a : Answer K) (reached : Reached rank top places m w) (honest : Honest rank m w a n) where
    step : Step rank places m w n (heard places w (answer_ranks rank a))
    step = record { reply = a; honest = honest; is_heard = refl }

    counted : (heard places w (answer_ranks rank a)).questions ≡ suc w.questions
    counted = step_counts rank levels top places laws few_places m n w (heard places w (answer_ranks rank a)) (reached_stands m w reached) step

    -- An answer that is refused counts no question.
    not_refused : (o : Option Refusal) → refusal_of w (answer_ranks rank a) ≡ o → told_unless o (heard places w (answer_ranks rank a)).phase ≡ told (heard places w (answer_ranks rank a)).phase
    unfolding heard
    not_refused None is = refl
    not_refused (Some refusal) is =
        absurd (let same : w.questions ≡ suc w.questions = ap (λ o. (unless_refused o w (in_memory w (after_answer places w.pending w.hushing (answer_ranks rank a) w))).questions) (sym is) ∙ counted in omega arith)

    pub leads_on : LeadsOn rank top places n w (heard places w (answer_ranks rank a)) (hearing_told places w (answer_ranks rank a))
    unfolding hearing_told
    leads_on = record {
      reached_again = record {
        start = reached.start;
        start_live = reached.start_live;
        start_awake = reached.start_awake;
        answers = suc reached.answers;
        steps = then_step reached.steps step;
      };
      counted = counted;
      not_refused = not_refused (refusal_of w (answer_ranks rank a)) refl;
    }

  -- The same of a walk and an answer that are known to be those.
  pub leads_on_by : (m n : Meaning K) (w : Walk) (a : Answer K) (v : Walk) (r : Result (Unit {0}) Refusal)
      → v ≡ heard places w (answer_ranks rank a)
      → r ≡ hearing_told places w (answer_ranks rank a)
      → Reached rank top places m w
      → Honest rank m w a n
      → LeadsOn rank top places n w v r
  leads_on_by m n w a v r walk_is told_is reached honest =
      subst₂ (LeadsOn rank top places n w) (sym walk_is) (sym told_is) (leads_on m n w a reached honest)
