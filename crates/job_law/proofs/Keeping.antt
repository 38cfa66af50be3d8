-- The promise, from what holds from link to link.
use Rattle.std.proofs.Common.{◌≡◌, ℕ, zero, suc, ◌+◌, ◌≤◌, true, false, leb, ◌⊎◌, List, length, is_some, Some, None, sum, Option, sym, refl, ap, ◌∙◌, subst, inl, inr, arith}
use Rattle.std.proofs.ByRecursion.{All-weaker}
use Rattle.std.proofs.lemmas.List.{length-map}
use Rattle.std.proofs.lemmas.Bool.{le-leb}
use Rattle.std.specs.Option.{option_map}
use Rattle.std.specs.List.{AllByRecursion}
use Rattle.keys.specs.declared.address.Address.{Address}
use Rattle.lines.specs.Meaning.{Fitted, Meaning, SameFixtures}
use Rattle.lines.proofs.Fixtures.{same_then}
use Rattle.lines.specs.Rules.{with_awake, rested}
use Rattle.lines.proofs.Meanings.{fitted_rested, awake_rested}
use Rattle.records.specs.Rows.{row_ranks}
use Rattle.records.specs.declared.record.Record.{Record}
use Rattle.walk_law.specs.Law.{ListsExactly, MoreFittedThan, most_questions}
use Rattle.walk_law.specs.declared.phase.Phase.{Phase}
use Rattle.walk_law.specs.declared.phase.Phase.TheVariants.{Walking, Walked, Laid, Set, Full, Contradicted}
use Rattle.walk_law.proofs.Listing.{Laws}
use Rattle.walk_law.proofs.Standing.{Found, StandsIn}
use Rattle.walk_law.proofs.WholeRuns.{stands_finds, lists_exactly, not_more_fitted}
use Rattle.job_law.specs.Calls.{closed}
use Rattle.job_law.specs.Chain.{State, with_job, with_closed, state_line, state_memory, Link, opens, opens_again, runs, lays, commits, closes, Chain, begins, follows}
use Rattle.job_law.specs.Numbering.{address_suits}
use Rattle.job_law.specs.Promise.{AddressesSet, Kept, KeptIn, KeptLink, Promised}
use Rattle.job_law.specs.Scene.{Scene, rows, places}
use Rattle.job_law.specs.declared.call.Call.{Call}
use Rattle.job_law.proofs.SameFixtures.{same_opened, same_link}
use Rattle.job_law.proofs.Calling.{good_run, run_ends, good_lay, good_commit, commit_sets}
use Rattle.job_law.proofs.Good.{Good, GoodIn, good_opened}
use Rattle.job_law.proofs.Spans.{NumberedFrom, widths, by_the_rule, all_suit, Among, among_all, among_listed, rows_apart, row_within}
use Rattle.job_law.proofs.Writing.{HoldsAddress}

-- An address that suits its width is there exactly if the width is above 0.
suits_exactly : (first count w : ℕ) (o : Option Address) → address_suits first count w o ≡ true → is_some o ≡ leb 1 w
suits_exactly first count zero None s = refl
suits_exactly first count zero (Some a) s = cc
suits_exactly first count (suc w) None s = cc
suits_exactly first count (suc w) (Some a) s = sym (le-leb 1 (suc w) (omega arith))

same_widths : {a b v w v' w' : ℕ} → v ≡ v' → w ≡ w' → (a + v' ≤ b) ⊎ (b + w' ≤ a) → (a + v ≤ b) ⊎ (b + w ≤ a)
same_widths p q (inl before) = inl (omega arith)
same_widths p q (inr behind) = inr (omega arith)

module _ {K : Type 0} (rank : K → ℕ) (levels top first count : ℕ) (laws : Laws rank levels top) where
  -- Addresses that are set, on a line that lists these rows.
  module _ (m : Meaning K) (rs : List (Record K)) (exactly : ListsExactly rank m (row_ranks rank rs))
      (numbered : NumberedFrom first rs)
      (enough : sum (widths rs) ≤ count)
      (held : AllByRecursion (HoldsAddress m) rs) where
    -- The row of a fitted key.
    row_of : (k : K) (f : Fitted) → m.at k ≡ Some f
        → (row : Record K) × Among row rs × (rank row.key ≡ rank k) × (f.width ≡ row.width) × (f.address ≡ row.address)
    row_of k f at =
        let listed = among_listed rank (rank k) rs (exactly.every_fitted_key k (ap is_some at)) in
        let row = listed.0 in
        let holds = among_all (HoldsAddress m) row rs held listed.1 in
        let same : holds.0 ≡ f = some_same (sym holds.1 ∙ ap m.at (laws.same row.key k listed.2) ∙ at) in
        (row, listed.1, listed.2, ap (λ (x : Fitted). x.width) (sym same) ∙ holds.2, ap (λ (x : Fitted). x.address) (sym same) ∙ holds.3)
      where
        some_same : {x y : Fitted} → Some x ≡ Some y → x ≡ y
        some_same e = cc

    pub addresses_set : AddressesSet rank first count m rs
    addresses_set = record {
      rows_are_on_the_line = held;
      numbered_by_the_rule = by_the_rule first rs numbered;
      address_exactly_if_wide = λ k f at.
          let found = row_of k f at in
          let suit = among_all _ found.0 rs (all_suit first count first rs numbered (omega arith) (omega arith)) found.1 in
          ap is_some found.4 ∙ suits_exactly first count found.0.width found.0.address suit ∙ sym (ap (leb 1) found.3);
      spans_apart = λ j k f g a b at_j at_k differ at_a at_b.
          let r = row_of j f at_j in
          let s = row_of k g at_k in
          let apart = rows_apart rank first rs numbered r.0 s.0 r.1 s.1 (λ e. differ (sym r.2 ∙ e ∙ s.2)) a b (sym r.4 ∙ at_a) (sym s.4 ∙ at_b) in
          same_widths r.3 s.3 apart;
      spans_within_the_family = λ k f a at at_a.
          let r = row_of k f at in
          let within = row_within first count rs numbered enough r.0 r.1 a (sym r.4 ∙ at_a) in
          let wide = r.3 in
          (within.0, omega (arith, within.1));
    }

  -- What is kept where a job stands.
  module _ (s : Scene K) (g : Good rank levels top first count s) where
    listed_count : length s.walk.listed ≡ length (rows s)
    listed_count = ap length (sym g.rows_listed) ∙ length-map (rows s) (λ row. rank row.key)

    exactly_of : Found rank levels top (places s) s.line s.walk.listed s.walk.questions → ListsExactly rank s.line (row_ranks rank (rows s))
    exactly_of f =
        subst (ListsExactly rank s.line) (sym g.rows_listed)
        (lists_exactly rank levels top (places s) laws (omega arith) s.line s.walk.listed s.walk.questions f)

    of_found : Found rank levels top (places s) s.line s.walk.listed s.walk.questions → (phase : Phase)
        → (phase ≡ Full → ⊥)
        → (phase ≡ Contradicted → ⊥)
        → (phase ≡ Set → AddressesSet rank first count s.line (rows s))
        → Kept rank levels first count s.line (rows s) (places s) phase s.walk.questions
    of_found f phase not_full not_contradicted set = record {
      lists_every_fitted_key_once = λ _. exactly_of f;
      asks_few_questions = subst (λ n. s.walk.questions ≤ most_questions levels n) listed_count f.few;
      complete_only_if_not_more_are_fitted = λ _. not_more_fitted rank levels top (places s) laws (omega arith) s.line s.walk.listed s.walk.questions f;
      full_only_if_more_are_fitted = λ is. absurd (not_full is);
      never_contradicted = not_contradicted;
      set_on_the_line = set;
    }

    of_phase : (phase : Phase) → s.walk.phase ≡ phase → GoodIn rank levels top first count phase s
        → Kept rank levels first count s.line (rows s) (places s) phase s.walk.questions
    of_phase Walking is (st, bare) =
        let law = stands_finds rank levels top (places s) laws (omega arith) s.line s.walk st in
        record {
          lists_every_fitted_key_once = λ e. cc;
          asks_few_questions = subst (λ n. s.walk.questions ≤ most_questions levels n) listed_count law.asks_few_questions;
          complete_only_if_not_more_are_fitted = λ e. cc;
          full_only_if_more_are_fitted = λ e. cc;
          never_contradicted = λ e. cc;
          set_on_the_line = λ e. cc;
        }
    of_phase Walked is (st, bare) =
        of_found (subst (λ p. StandsIn rank levels top (places s) p s.walk.pending s.line s.walk.hushing s.walk.listed s.walk.questions) is st) Walked
        (λ e. cc)
        (λ e. cc)
        (λ e. cc)
    of_phase Laid is w =
        of_found w.found Laid (λ e. cc) (λ e. cc)
        (λ e. cc)
    of_phase Set is w =
        of_found w.found Set (λ e. cc) (λ e. cc)
        (λ _. addresses_set s.line (rows s) (exactly_of w.found) w.numbered w.enough w.held)
    of_phase Full is (st, bare) =
        let law = stands_finds rank levels top (places s) laws (omega arith) s.line s.walk st in
        record {
          lists_every_fitted_key_once = λ e. cc;
          asks_few_questions = subst (λ n. s.walk.questions ≤ most_questions levels n) listed_count law.asks_few_questions;
          complete_only_if_not_more_are_fitted = λ e. cc;
          full_only_if_more_are_fitted = λ _. law.full_if_more_fitted_than_places is;
          never_contradicted = λ e. cc;
          set_on_the_line = λ e. cc;
        }
    of_phase Contradicted is w = absurd w

    pub kept_here : KeptIn rank levels top first count (with_job s)
    kept_here = of_phase s.walk.phase refl g.by_phase

  -- A line at rest has the same fixtures, and none of them is awake.
  fixture_rested : (m : Meaning K) (k : K) (f : Fitted) → (rested m).at k ≡ Some f → (g : Fitted) × (m.at k ≡ Some g) × (g.width ≡ f.width) × (g.address ≡ f.address)
  unfolding rested
  fixture_rested m k f is = by (m.at k) refl is
    where
      by : (o : Option Fitted) → m.at k ≡ o → option_map (with_awake false) o ≡ Some f → (g : Fitted) × (m.at k ≡ Some g) × (g.width ≡ f.width) × (g.address ≡ f.address)
      by (Some g) at e = let same : with_awake false g ≡ f = cc in (g, at, ap (λ (x : Fitted). x.width) same, ap (λ (x : Fitted). x.address) same)
      by None at e = cc

  rested_fixture : (m : Meaning K) (k : K) (g : Fitted) → m.at k ≡ Some g → (rested m).at k ≡ Some (with_awake false g)
  unfolding rested
  rested_fixture m k g at = ap (option_map (with_awake false)) at

  set_rested : (m : Meaning K) (rs : List (Record K)) → AddressesSet rank first count m rs → AddressesSet rank first count (rested m) rs
  set_rested m rs a = record {
    rows_are_on_the_line =
        All-weaker _ _ (λ row h. (with_awake false h.0, rested_fixture m row.key h.0 h.1, h.2, h.3)) rs a.rows_are_on_the_line;
    numbered_by_the_rule = a.numbered_by_the_rule;
    address_exactly_if_wide = λ k f at.
        let g = fixture_rested m k f at in
        ap is_some (sym g.3) ∙ a.address_exactly_if_wide k g.0 g.1 ∙ ap (leb 1) g.2;
    spans_apart = λ j k f g x y at_j at_k differ at_x at_y.
        let p = fixture_rested m j f at_j in
        let q = fixture_rested m k g at_k in
        same_widths (sym p.2) (sym q.2) (a.spans_apart j k p.0 q.0 x y p.1 q.1 differ (p.3 ∙ at_x) (q.3 ∙ at_y));
    spans_within_the_family = λ k f x at at_x.
        let p = fixture_rested m k f at in
        let within = a.spans_within_the_family k p.0 x p.1 (p.3 ∙ at_x) in
        let wide = p.2 in
        (within.0, omega (arith, within.1));
  }

  fewer_rested : (m : Meaning K) (n : ℕ) → MoreFittedThan rank (rested m) n → MoreFittedThan rank m n
  fewer_rested m n more = record {
    keys = more.keys;
    count = more.count;
    different = more.different;
    all_fitted = All-weaker _ _ (λ k is. sym (fitted_rested m k) ∙ is) more.keys more.all_fitted;
  }

  more_rested : (m : Meaning K) (n : ℕ) → MoreFittedThan rank m n → MoreFittedThan rank (rested m) n
  more_rested m n more = record {
    keys = more.keys;
    count = more.count;
    different = more.different;
    all_fitted = All-weaker _ _ (λ k is. fitted_rested m k ∙ is) more.keys more.all_fitted;
  }

  pub kept_closed : (s : Scene K) → Good rank levels top first count s → KeptIn rank levels top first count (with_closed (closed s))
  kept_closed s g =
      let k = kept_here s g in (
        record {
          lists_every_fitted_key_once = λ is.
              let e = k.lists_every_fitted_key_once is in
              record {
                ascending = e.ascending;
                every_fitted_key = λ j fitted. e.every_fitted_key j (sym (fitted_rested s.line j) ∙ fitted);
                no_other_key = λ j listed. fitted_rested s.line j ∙ e.no_other_key j listed;
              };
          asks_few_questions = k.asks_few_questions;
          complete_only_if_not_more_are_fitted = λ is more. k.complete_only_if_not_more_are_fitted is (fewer_rested s.line (places s) more);
          full_only_if_more_are_fitted = λ is. more_rested s.line (places s) (k.full_only_if_more_are_fitted is);
          never_contradicted = k.never_contradicted;
          set_on_the_line = λ is. set_rested s.line (rows s) (k.set_on_the_line is);
        },
        awake_rested s.line,
      )

  -- Where a chain stands: a job that is good, or one that was and is closed.
  abbrev GoodState : State K → Type 0
  GoodState (with_job s) = Good rank levels top first count s
  GoodState (with_closed c) = (s : Scene K) × Good rank levels top first count s × (c ≡ closed s)

  good_link : (s : State K) (call : Call) (t : State K) → GoodState s → Link rank top first count s call t → GoodState t
  good_link s call t g (opens {t = u} o) = good_opened rank levels top first count laws (state_line s) (state_memory s) u o
  good_link s call t g (opens_again {s = v} {t = u} o) = good_opened rank levels top first count laws v.line v.memory u o
  good_link s call t g (runs {s = v} {t = u} {budget = b} {r = r} ran) = good_run rank levels top first count laws b v u r g ran
  good_link s call t g (lays {s = v} {t = u} {r = r} laid) = good_lay rank levels top first count laws v g u r laid
  good_link s call t g (commits {s = v} {t = u} {r = r} c) = good_commit rank levels top first count laws v g u r c
  good_link s call t g (closes {s = v} is) = (v, g, is)

  module _ (line : Meaning K) (memory : List (Record K)) where
    good_chain : (calls : List Call) (s : State K) → Chain rank top first count line memory calls s → GoodState s
    good_chain calls s (begins {t} o) = good_opened rank levels top first count laws line memory t o
    good_chain calls s (follows {calls = before} {s = r} {t = t} {call = call} chain between link) =
        good_link t call s (subst GoodState between (good_chain before r chain)) link

  kept_state : (s : State K) → GoodState s → KeptIn rank levels top first count s
  kept_state (with_job s) g = kept_here s g
  kept_state (with_closed c) (s, g, is) = subst (λ x. KeptIn rank levels top first count (with_closed x)) (sym is) (kept_closed s g)

  kept_link : (s : State K) (call : Call) (t : State K) → GoodState s → (link : Link rank top first count s call t) → KeptLink rank levels top first count link
  kept_link s call t g (opens o) = tt
  kept_link s call t g (opens_again o) = tt
  kept_link s call t g (runs {s = v} {t = u} {budget = b} {r = r} ran) = λ is enough. run_ends rank levels top first count laws b v u r g is enough ran
  kept_link s call t g (lays l) = tt
  kept_link s call t g (commits {s = v} {t = u} {r = r} c) = commit_sets rank levels top first count laws v g u r c
  kept_link s call t g (closes is) = tt

  module _ (line : Meaning K) (memory : List (Record K)) where
    same_chain : (calls : List Call) (s : State K) → Chain rank top first count line memory calls s → SameFixtures line (state_line s)
    same_chain calls s (begins {t} o) = same_opened rank top first count line memory t o
    same_chain calls s (follows {calls = before} {s = r} {t = t} {call = call} chain between link) =
        same_then line (state_line t) (state_line s) (subst (λ x. SameFixtures line (state_line x)) between (same_chain before r chain)) (same_link rank top first count t call s link)

    -- Every chain is promised.
    pub promised : (calls : List Call) (s : State K) (chain : Chain rank top first count line memory calls s) → Promised rank levels top first count chain
    promised calls s (begins {t} o) =
        record { same_fixtures = same_opened rank top first count line memory t o; kept = kept_here t (good_opened rank levels top first count laws line memory t o) }
    promised calls s (follows {calls = before} {s = r} {t = t} {call = call} chain between link) =
        let g = subst GoodState between (good_chain line memory before r chain) in (
          promised before r chain,
          kept_link t call s g link,
          record {
            same_fixtures = same_chain calls s (follows chain between link);
            kept = kept_state s (good_link t call s g link);
          },
        )
