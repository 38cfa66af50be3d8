-- Each call leads from what is good to what is good.
use Rattle.std.proofs.Common.{◌≡◌, ℕ, suc, ◌+◌, ◌*◌, ◌^◌, ◌<◌, ◌≤◌, min, Bool, true, false, cond, ◌⊎◌, List, [], ◌∷◌, length, drop, is_some, IfSome, Some, None, sum, Option, Result, sym, refl, ap, ◌∙◌, subst, inl, inr, mul-le-mul, arith}
use Rattle.std.proofs.lemmas.List.{length-append, length-drop, length-take-le, take_at}
use Rattle.std.proofs.lemmas.Bool.{and_parts, and_from, eq-eqb, cond-true, both_ways}
use Rattle.std.specs.Option.{option_map}
use Rattle.std.specs.List.{AllByRecursion}
use Rattle.lines.specs.Meaning.{Fitted, Meaning}
use Rattle.lines.specs.Rules.{query_answer, footprint_of}
use Rattle.records.specs.Rows.{row_ranks}
use Rattle.records.specs.declared.record.Record.{Record}
use Rattle.refusals.specs.declared.Refusal.{Refusal}
use Rattle.refusals.specs.declared.Refusal.TheVariants.{NoAnswer}
use Rattle.walk_law.specs.Law.{most_questions, FindsEveryFixture}
use Rattle.walk_law.specs.Phases.{is_walking}
use Rattle.walk_law.specs.Ranks.{Ascends}
use Rattle.walk_law.specs.Walk.{Walk, asked}
use Rattle.walk_law.specs.declared.phase.Phase.{Phase}
use Rattle.walk_law.specs.declared.phase.Phase.TheVariants.{Walking, Walked, Laid, Set, Full, Contradicted}
use Rattle.walk_law.proofs.Listing.{Laws}
use Rattle.walk_law.proofs.Standing.{Found, StandsIn}
use Rattle.walk_law.proofs.WholeRuns.{stands_finds}
use Rattle.job_law.specs.Calls.{Runs, outside_walking, questions_spent, asks_on, Lays, lay_refusal, laid, unless_refused, Commits, commit_refusal, rows_refusal, committed}
use Rattle.job_law.specs.Numbering.{asked_widths, all_answered, width_of, numbered, answers_as, all_stand, address_suits, all_written}
use Rattle.job_law.specs.Scene.{Scene, rows, places}
use Rattle.job_law.specs.declared.call.Ran.{Ran}
use Rattle.job_law.proofs.Good.{Bare, Good, GoodIn, LaidWell, WalksWell, good_walk, walks_on}
use Rattle.job_law.proofs.Refusing.{lay_free, commit_laid}
use Rattle.job_law.proofs.Spans.{NumberedFrom, widths, numbered_is, numbered_widths, numbered_ranks, numbered_length, all_suit}
use Rattle.job_law.proofs.Writing.{OnLine, all_hold, live_all_written, fitted_all_written, awake_all_written}

walking_is : (phase : Phase) → is_walking phase ≡ true → phase ≡ Walking
walking_is Walking e = refl
walking_is Walked e = cc
walking_is Laid e = cc
walking_is Set e = cc
walking_is Full e = cc
walking_is Contradicted e = cc

module _ {K : Type 0} (rank : K → ℕ) (levels top first count : ℕ) (laws : Laws rank levels top) where
  -- A walking job stands.
  walks_well : (s : Scene K) → Good rank levels top first count s → s.walk.phase ≡ Walking → WalksWell rank levels top first count laws s
  walks_well s g is =
      let now = subst (λ p. GoodIn rank levels top first count p s) is g.by_phase in
      record { rows_listed = g.rows_listed; rows_fit = g.rows_fit; stands = now.0; bare = now.1 }

  -- run
  module _ (budget : ℕ) (s t : Scene K) (r : Result Ran Refusal) (g : Good rank levels top first count s) where
    pub good_run : Runs rank budget s r t → Good rank levels top first count t
    good_run (outside_walking out answer same) = subst (Good rank levels top first count) (sym same) g
    good_run (questions_spent walks spent answer same) = subst (Good rank levels top first count) (sym same) g
    good_run (asks_on i walks few questions most stops answer) =
        good_walk rank levels top first count laws t (walks_on rank levels top first count laws s i t (walks_well s g (walking_is s.walk.phase walks)) questions).0

    -- A walking walk has asked fewer questions than are counted.
    counted : (m : Meaning K) (p : ℕ) (w : Walk) → p ≤ 65536 → FindsEveryFixture rank levels p m w → w.phase ≡ Walking → w.questions < 2 ^ 24
    counted m p w few finds is =
        let less = finds.still_walking_asked_less is in
        let narrow = laws.few_levels in
        let least : suc p * (3 * levels + 2) ≤ 65537 * 146 = mul-le-mul {n₂ = 65537} {m₂ = 146} (omega arith) (omega arith) in
        omega arith

    pub run_ends : s.walk.phase ≡ Walking → most_questions levels (places s) ≤ budget → Runs rank budget s r t → (t.walk.phase ≡ Walked) ⊎ (t.walk.phase ≡ Full)
    run_ends is enough (outside_walking out answer same) = absurd (both_ways (is_walking s.walk.phase) out (ap is_walking is))
    run_ends is enough (questions_spent walks spent answer same) =
        absurd (let well = walks_well s g is in let less = counted s.line (places s) s.walk (omega arith) (stands_finds rank levels top (places s) laws (omega arith) s.line s.walk well.stands) is in omega arith)
    run_ends is enough (asks_on i walks few questions most stops answer) = by_phase finds.ends_walked_or_full
      where
        on : WalksWell rank levels top first count laws t × (places t ≡ places s) × (t.walk.questions ≡ s.walk.questions + i)
        on = walks_on rank levels top first count laws s i t (walks_well s g is) questions

        finds : FindsEveryFixture rank levels (places t) t.line t.walk
        finds = stands_finds rank levels top (places t) laws (omega arith) t.line t.walk on.0.stands

        stopped : t.walk.phase ≡ Walking → (i ≡ budget) ⊎ ((asked t.walk ≡ None) ⊎ (2 ^ 24 ≤ t.walk.questions)) → ⊥
        stopped still (inl all) =
            let less = finds.still_walking_asked_less still in
            let same = ap (most_questions levels) on.1 in
            let asked_so = on.2 in
            omega arith
        stopped still (inr (inl none)) = both_ways false refl (sym (ap is_some none) ∙ finds.walking_has_a_question still)
        stopped still (inr (inr spent)) = let less = counted t.line (places t) t.walk (omega arith) finds still in omega arith

        by_phase : (t.walk.phase ≡ Walking) ⊎ ((t.walk.phase ≡ Walked) ⊎ (t.walk.phase ≡ Full)) → (t.walk.phase ≡ Walked) ⊎ (t.walk.phase ≡ Full)
        by_phase (inl still) = absurd (stopped still stops)
        by_phase (inr ended) = ended

  -- A key that answers is fitted, with the width that it told.
  answering : (m : Meaning K) (k : K) → Bare m → is_some (query_answer m k) ≡ true
      → (f : Fitted) × (m.at k ≡ Some f) × (f.width ≡ width_of (query_answer m k)) × (f.width ≡ 0 → f.address ≡ None)
  answering m k bare is = by m.live (m.at k) refl refl is
    where
      by : (l : Bool) (o : Option Fitted) → m.live ≡ l → m.at k ≡ o → is_some (cond l (option_map footprint_of o) None) ≡ true
          → (f : Fitted) × (m.at k ≡ Some f) × (f.width ≡ width_of (query_answer m k)) × (f.width ≡ 0 → f.address ≡ None)
      by true (Some f) live at some = (
        f,
        at,
        sym (ap width_of (ap (λ l. cond l (option_map footprint_of (m.at k)) None) live ∙ ap (option_map footprint_of) at)),
        subst (λ o. IfSome o (λ g. g.width ≡ 0 → g.address ≡ None)) at (bare k),
      )
      by true None live at some = cc
      by false o live at some = cc

  numbered_on_line : (m : Meaning K) (next : ℕ) (rs : List (Record K)) → Bare m → all_answered (asked_widths m rs) ≡ true → AllByRecursion (OnLine m) (numbered next m rs)
  numbered_on_line m next [] bare all = tt
  numbered_on_line m next (row ∷ rs) bare all =
      let both = and_parts _ _ all in
      (answering m row.key bare both.0, numbered_on_line m (next + width_of (query_answer m row.key)) rs bare both.1)

  module _ (s : Scene K) (g : Good rank levels top first count s) where
    -- As many rows as are counted.
    counted_rows : length (rows s) ≡ s.count
    counted_rows = length-take-le s.count s.memory (let fit = g.rows_fit in omega arith)

    laid_long : length (numbered first s.line (rows s)) ≡ s.count
    laid_long = numbered_length first s.line (rows s) ∙ counted_rows

    laid_rows : rows (laid first s) ≡ numbered first s.line (rows s)
    laid_rows = take_at (numbered first s.line (rows s)) (drop s.count s.memory) s.count laid_long

    laid_places : places (laid first s) ≡ places s
    laid_places =
        let size = length-append (numbered first s.line (rows s)) (drop s.count s.memory) in
        let rest = length-drop s.count s.memory in
        let long = laid_long in
        let fit = g.rows_fit in
        ap (λ n. min n 65536) (omega arith)

    good_laid : lay_refusal count s ≡ None → Good rank levels top first count (laid first s)
    good_laid free =
        let can = lay_free count s.walk.phase s.line (rows s) free in
        let now = subst (λ p. GoodIn rank levels top first count p s) can.0 g.by_phase in
        let found = subst (λ p. StandsIn rank levels top (places s) p s.walk.pending s.line s.walk.hushing s.walk.listed s.walk.questions) can.0 now.0 in
        record {
          rows_listed = ap (row_ranks rank) laid_rows ∙ numbered_ranks rank first s.line (rows s) ∙ g.rows_listed;
          rows_fit = rw laid_places g.rows_fit;
          by_phase = record {
            found = subst (λ p. Found rank levels top p s.line s.walk.listed s.walk.questions) (sym laid_places) found;
            numbered = subst (NumberedFrom first) (sym laid_rows) (numbered_is first s.line (rows s));
            enough = subst (λ ws. sum ws ≤ count) (sym (ap widths laid_rows ∙ numbered_widths first s.line (rows s))) can.2;
            on_line = subst (AllByRecursion (OnLine s.line)) (sym laid_rows) (numbered_on_line s.line first (rows s) now.1 can.1);
          };
        }

    pub good_lay : (t : Scene K) (r : Result (Unit {0}) Refusal) → Lays first count s r t → Good rank levels top first count t
    good_lay t r l = by (lay_refusal count s) refl
      where
        by : (o : Option Refusal) → lay_refusal count s ≡ o → Good rank levels top first count t
        by (Some refusal) e = subst (Good rank levels top first count) (sym (l.scene ∙ ap (λ x. unless_refused x s (laid first s)) e)) g
        by None e = subst (Good rank levels top first count) (sym (l.scene ∙ ap (λ x. unless_refused x s (laid first s)) e)) (good_laid e)

  -- commit: a row that is numbered by the rule, as the line has its width, stands.
  rows_stand : (m : Meaning K) (rs : List (Record K)) → m.live ≡ true → AllByRecursion (OnLine m) rs
      → AllByRecursion (λ row. address_suits first count row.width row.address ≡ true) rs
      → all_stand first count m rs ≡ true
  rows_stand m [] live on_line suits = refl
  rows_stand m (row ∷ rs) live (here, on_line) (suit, suits) =
      let answer : query_answer m row.key ≡ Some (footprint_of here.0) =
      ap (λ l. cond l (option_map footprint_of (m.at row.key)) None) live ∙ ap (option_map footprint_of) here.1 in
      and_from _ _ (and_from _ _ (ap (answers_as row.width) answer ∙ eq-eqb _ _ here.2) suit) (rows_stand m rs live on_line suits)

  -- The walk's findings hold of the line once addresses are written to it.
  found_written : (p : ℕ) (m : Meaning K) (rs : List (Record K)) (listed : List ℕ) (questions : ℕ) → Found rank levels top p m listed questions
      → Found rank levels top p (all_written rank first count m rs) listed questions
  found_written p m rs listed questions f = record {
    book = record {
      live = live_all_written rank first count m rs ∙ f.book.live;
      ascends = f.book.ascends;
      fits = f.book.fits;
      within = f.book.within;
      listed_fitted = λ k is. fitted_all_written rank first count m rs k ∙ f.book.listed_fitted k is;
      listed_asleep = λ k is. awake_all_written rank first count m rs k ∙ f.book.listed_asleep k is;
      awake_or_listed = λ k fitted out. awake_all_written rank first count m rs k ∙ f.book.awake_or_listed k (sym (fitted_all_written rank first count m rs k) ∙ fitted) out;
    };
    none_awake = λ k. awake_all_written rank first count m rs k ∙ f.none_awake k;
    few = f.few;
  }

  module _ (s : Scene K) (g : Good rank levels top first count s) where
    laid_well : s.walk.phase ≡ Laid → LaidWell rank levels top first count s
    laid_well is = subst (λ p. GoodIn rank levels top first count p s) is g.by_phase

    laid_suits : LaidWell rank levels top first count s → AllByRecursion (λ row. address_suits first count row.width row.address ≡ true) (rows s)
    laid_suits w = let enough = w.enough in all_suit first count first (rows s) w.numbered (omega arith) (omega arith)

    good_committed : s.walk.phase ≡ Laid → Good rank levels top first count (committed rank first count s)
    good_committed is =
        let w = laid_well is in
        record {
          rows_listed = g.rows_listed;
          rows_fit = g.rows_fit;
          by_phase = record {
            found = found_written (places s) s.line (rows s) s.walk.listed s.walk.questions w.found;
            numbered = w.numbered;
            enough = w.enough;
            held =
                all_hold rank first count s.line 0 (rows s) (subst Ascends (sym g.rows_listed) w.found.book.ascends) w.found.book.live w.on_line
                (laid_suits w);
          };
        }

    pub good_commit : (t : Scene K) (r : Result (Unit {0}) Refusal) → Commits rank first count s r t → Good rank levels top first count t
    good_commit t r c = by (commit_refusal first count s) refl
      where
        by : (o : Option Refusal) → commit_refusal first count s ≡ o → Good rank levels top first count t
        by (Some refusal) e = subst (Good rank levels top first count) (sym (c.scene ∙ ap (λ x. unless_refused x s (committed rank first count s)) e)) g
        by None e =
            subst (Good rank levels top first count) (sym (c.scene ∙ ap (λ x. unless_refused x s (committed rank first count s)) e))
            (good_committed (commit_laid first count s.walk.phase s.line (rows s) e))

    -- In laid it is never refused.
    pub commit_sets : (t : Scene K) (r : Result (Unit {0}) Refusal) → Commits rank first count s r t → s.walk.phase ≡ Laid → t.walk.phase ≡ Set
    commit_sets t r c is =
        let w = laid_well is in
        let stand = rows_stand s.line (rows s) w.found.book.live w.on_line (laid_suits w) in
        let free : commit_refusal first count s ≡ None =
        ap (λ p. rows_refusal p first count s.line (rows s)) is ∙ cond-true (all_stand first count s.line (rows s)) None (Some NoAnswer) stand in
        ap (λ (x : Scene K). x.walk.phase) (c.scene ∙ ap (λ x. unless_refused x s (committed rank first count s)) free)
