-- What holds where a chain stands, from link to link.
use Rattle.std.proofs.Common.{◌≡◌, ℕ, suc, ◌+◌, ◌-◌, ◌<◌, ◌≤◌, min, Bool, true, false, cond, eqb, List, ◌++◌, length, take, drop, IfSome, Some, None, sum, Option, sym, refl, ap, ◌∙◌, subst, arith}
use Rattle.std.proofs.lemmas.List.{length-append, length-drop, length-map, length-take-le, take_at}
use Rattle.std.specs.Option.{option_map}
use Rattle.std.specs.List.{AllByRecursion}
use Rattle.lines.specs.Meaning.{Fitted, Meaning, Sound, SoundFixture, is_fitted, is_awake}
use Rattle.lines.specs.Rules.{with_awake, changed_at, hush_answer, hushed}
use Rattle.lines.proofs.Meanings.{live_roused, fitted_roused, awake_roused}
use Rattle.records.specs.Rows.{row_ranks, with_key}
use Rattle.records.specs.declared.record.Record.{Record}
use Rattle.records.proofs.Places.{length-with_key, ranks_with_key}
use Rattle.walk_law.specs.Ranks.{put_in}
use Rattle.walk_law.specs.Run.{Honest, to_probe, to_hush, Step, answer_ranks}
use Rattle.walk_law.specs.Walk.{Walk, begun}
use Rattle.walk_law.specs.declared.phase.Phase.{Phase}
use Rattle.walk_law.specs.declared.phase.Phase.TheVariants.{Walking, Walked, Laid, Set, Full, Contradicted}
use Rattle.walk_law.specs.declared.question.Answer.{Answer}
use Rattle.walk_law.proofs.Going.{step_stands, step_counts}
use Rattle.walk_law.proofs.ListedKeys.{Outcome, lists_none, lists_one, outcome}
use Rattle.walk_law.proofs.Listing.{Laws, listing_none}
use Rattle.walk_law.proofs.Standing.{Found, Stands, StandsIn, begins}
use Rattle.job_law.specs.Calls.{Opens, Asks, Questions, no_question, then_asks}
use Rattle.job_law.specs.Scene.{Scene, rows, places}
use Rattle.job_law.proofs.Spans.{NumberedFrom, widths}
use Rattle.job_law.proofs.Writing.{OnLine, HoldsAddress}

-- A fixture of width 0 has no address.
abbrev pub Bare : {K : Type 0} → Meaning K → Type 0
Bare {K} m = (k : K) → IfSome (m.at k) (λ f. f.width ≡ 0 → f.address ≡ None)

module _ {K : Type 0} (rank : K → ℕ) (levels top first count : ℕ) where
  -- The rows are numbered by the rule, as the line has their widths.
  pub record LaidWell (s : Scene K) : Type 0 where
    pub found : Found rank levels top (places s) s.line s.walk.listed s.walk.questions
    pub numbered : NumberedFrom first (rows s)
    pub enough : sum (widths (rows s)) ≤ count
    pub on_line : AllByRecursion (OnLine s.line) (rows s)

  -- And their fixtures hold the addresses.
  pub record SetWell (s : Scene K) : Type 0 where
    pub found : Found rank levels top (places s) s.line s.walk.listed s.walk.questions
    pub numbered : NumberedFrom first (rows s)
    pub enough : sum (widths (rows s)) ≤ count
    pub held : AllByRecursion (HoldsAddress s.line) (rows s)

  abbrev pub GoodIn : Phase → Scene K → Type 0
  GoodIn Walking s = Stands rank levels top (places s) s.line s.walk × Bare s.line
  GoodIn Walked s = Stands rank levels top (places s) s.line s.walk × Bare s.line
  GoodIn Full s = Stands rank levels top (places s) s.line s.walk × Bare s.line
  GoodIn Laid s = LaidWell s
  GoodIn Set s = SetWell s
  GoodIn Contradicted s = ⊥

  pub record Good (s : Scene K) : Type 0 where
    -- The rows list what the walk has listed, and are no more than there are places.
    pub rows_listed : row_ranks rank (rows s) ≡ s.walk.listed
    pub rows_fit : s.count ≤ places s
    pub by_phase : GoodIn s.walk.phase s

  -- Where a walk stands, the scene is good in its phase.
  stands_good : (phase : Phase) (s : Scene K) → s.walk.phase ≡ phase → Stands rank levels top (places s) s.line s.walk → Bare s.line → GoodIn s.walk.phase s
  stands_good Walking s is st bare = subst (λ p. GoodIn p s) (sym is) (st, bare)
  stands_good Walked s is st bare = subst (λ p. GoodIn p s) (sym is) (st, bare)
  stands_good Full s is st bare = subst (λ p. GoodIn p s) (sym is) (st, bare)
  stands_good Laid s is st bare = absurd (subst (λ p. StandsIn rank levels top (places s) p s.walk.pending s.line s.walk.hushing s.walk.listed s.walk.questions) is st)
  stands_good Set s is st bare = absurd (subst (λ p. StandsIn rank levels top (places s) p s.walk.pending s.line s.walk.hushing s.walk.listed s.walk.questions) is st)
  stands_good Contradicted s is st bare = absurd (subst (λ p. StandsIn rank levels top (places s) p s.walk.pending s.line s.walk.hushing s.walk.listed s.walk.questions) is st)

  -- Laws of a line say so of width 0.
  pub sound_bare : (m : Meaning K) → Sound first count m → Bare m
  sound_bare m sound k = by (m.at k) (sound k)
    where
      by : (o : Option Fitted) → IfSome o (SoundFixture first count m.live) → IfSome o (λ f. f.width ≡ 0 → f.address ≡ None)
      by None s = tt
      by (Some f) s = s.no_address_at_width_0

  -- A hush keeps it.
  bare_hushed : (m : Meaning K) (k : K) → Bare m → Bare (hushed rank m k)
  unfolding hushed
  bare_hushed m k bare j = by_answer (hush_answer m k)
    where
      asleep : (o : Option Fitted) → IfSome o (λ f. f.width ≡ 0 → f.address ≡ None) → IfSome (option_map (with_awake false) o) (λ f. f.width ≡ 0 → f.address ≡ None)
      asleep None b = tt
      asleep (Some f) b = b

      at : (t : Bool) → IfSome (cond t (option_map (with_awake false) (m.at j)) (m.at j)) (λ f. f.width ≡ 0 → f.address ≡ None)
      at true = asleep (m.at j) (bare j)
      at false = bare j

      by_answer : (t : Bool) → IfSome ((cond t (changed_at rank k (with_awake false) m) m).at j) (λ f. f.width ≡ 0 → f.address ≡ None)
      by_answer true = at (eqb (rank j) (rank k))
      by_answer false = bare j

  module _ (laws : Laws rank levels top) where
    -- open and again.
    pub good_opened : (line : Meaning K) (memory : List (Record K)) (t : Scene K) → Opens top first count line memory t → Good t
    good_opened line memory t o =
        let bare = sound_bare t.line o.line_sound in
        let listing = listing_none rank top (places t) t.line (ap (λ (m : Meaning K). m.live) o.line_roused ∙ live_roused line)
        (λ k. ap (λ (m : Meaning K). is_awake m k) o.line_roused ∙ awake_roused line k ∙ sym (ap (λ (m : Meaning K). is_fitted m k) o.line_roused ∙ fitted_roused line k)) in
        let at_first : Stands rank levels top (places t) t.line (begun top) = begins rank levels top (places t) laws t.line listing in
        record {
          rows_listed = ap (λ n. row_ranks rank (take n t.memory)) o.book_empty ∙ sym (ap (λ (w : Walk). w.listed) o.walk_begun);
          rows_fit = rw o.book_empty (omega arith);
          by_phase =
              stands_good Walking t (ap (λ (w : Walk). w.phase) o.walk_begun) (subst (Stands rank levels top (places t) t.line) (sym o.walk_begun) at_first) bare;
        }

    -- A scene in which a walk stands.
    pub record WalksWell (s : Scene K) : Type 0 where
      pub rows_listed : row_ranks rank (rows s) ≡ s.walk.listed
      pub rows_fit : s.count ≤ places s
      pub stands : Stands rank levels top (places s) s.line s.walk
      pub bare : Bare s.line

    pub good_walk : (s : Scene K) → WalksWell s → Good s
    good_walk s g = record {
      rows_listed = g.rows_listed;
      rows_fit = g.rows_fit;
      by_phase = stands_good s.walk.phase s refl g.stands g.bare;
    }

    -- One question of a run.
    module _ (s t : Scene K) (g : WalksWell s) (a : Asks rank s t) where
      few_places : places s ≤ 65536
      few_places = omega arith

      step : Step rank (places s) s.line s.walk t.line t.walk
      step = record { reply = a.reply; honest = a.honest; is_heard = a.is_heard }

      stands_after : Stands rank levels top (places s) t.line t.walk
      stands_after = step_stands rank levels top (places s) laws few_places s.line t.line s.walk t.walk g.stands step

      counts_after : t.walk.questions ≡ suc s.walk.questions
      counts_after = step_counts rank levels top (places s) laws few_places s.line t.line s.walk t.walk g.stands step

      bare_by : (x : Answer K) → Honest rank s.line s.walk x t.line → Bare t.line
      bare_by x (to_probe range p asks honest told same) = subst Bare (sym same) g.bare
      bare_by x (to_hush k asks told same) = subst Bare (sym same) (bare_hushed s.line k g.bare)

      -- As many rows as keys are listed.
      long_rows : length (rows s) ≡ s.count
      long_rows = length-take-le s.count s.memory (let fit = g.rows_fit in omega arith)

      long_listed : length s.walk.listed ≡ s.count
      long_listed = ap length (sym g.rows_listed) ∙ length-map (rows s) (λ row. rank row.key) ∙ long_rows

      well_by : Outcome rank (places s) s.walk (answer_ranks rank a.reply) → (places t ≡ places s) × (row_ranks rank (rows t) ≡ t.walk.listed) × (t.count ≤ places s)
      well_by (lists_none old same) =
          let kept = a.book_kept old in
          let fit = g.rows_fit in (
            ap (λ (l : List (Record K)). min (length l) 65536) kept.0,
            (λ i. row_ranks rank (take (kept.1 i) (kept.0 i))) ∙ g.rows_listed ∙ sym (ap (λ (w : Walk). w.listed) a.is_heard ∙ same),
            rw kept.1 fit,
          )
      well_by (lists_one k hushes new now-listed free) =
          let more = a.key_listed new k hushes in
          let long = long_listed in
          let longer : length (with_key rank k (rows s)) ≡ suc s.count = length-with_key rank k (rows s) ∙ ap suc long_rows in
          let size : length (with_key rank k (rows s) ++ drop (suc s.count) s.memory) ≡ length s.memory =
          length-append (with_key rank k (rows s)) (drop (suc s.count) s.memory) ∙ by_size longer (length-drop (suc s.count) s.memory) free long in
          let front : rows t ≡ with_key rank k (rows s) =
          (λ i. take (more.1 i) (more.0 i)) ∙ take_at (with_key rank k (rows s)) (drop (suc s.count) s.memory) (suc s.count) longer in (
            ap (λ (l : List (Record K)). min (length l) 65536) more.0 ∙ ap (λ n. min n 65536) size,
            ap (row_ranks rank) front ∙ ranks_with_key rank k (rows s) ∙ ap (put_in (rank k)) g.rows_listed ∙ sym (ap (λ (w : Walk). w.listed) a.is_heard ∙ now-listed),
            rw more.1 (omega arith),
          )
        where
          by_size : {x y : ℕ} → x ≡ suc s.count → y ≡ length s.memory - suc s.count → length s.walk.listed < places s → length s.walk.listed ≡ s.count → x + y ≡ length s.memory
          by_size p q free long = omega arith

      pub walks_after : WalksWell t × (places t ≡ places s) × (t.walk.questions ≡ suc s.walk.questions)
      walks_after =
          let well = well_by (outcome rank levels top (places s) laws few_places s.line t.line s.walk a.reply g.stands a.honest) in (
            record {
              rows_listed = well.1;
              rows_fit = rw well.0 well.2;
              stands = subst (λ p. Stands rank levels top p t.line t.walk) (sym well.0) stands_after;
              bare = bare_by a.reply a.honest;
            },
            well.0,
            counts_after,
          )

    -- And of any number of them.
    pub walks_on : (s : Scene K) (i : ℕ) (t : Scene K) → WalksWell s → Questions rank s i t → WalksWell t × (places t ≡ places s) × (t.walk.questions ≡ s.walk.questions + i)
    walks_on s i t g no_question = (g, refl, omega arith)
    walks_on s i t g (then_asks {i = j} {s = u} before a) =
        let so_far = walks_on s j u g before in
        let next = walks_after u t so_far.0 a in
        let p = so_far.2 in
        let q = next.2 in
        (next.0, next.1 ∙ so_far.1, omega arith)
