-- Chains and their promise, from single links.
use Rattle.std.proofs.Common.{◌≡◌, ℕ, ◌+◌, ◌<◌, ◌≤◌, Bool, true, false, cond, ◌⊎◌, inl, inr, List, [], ◌∷◌, ◌++◌, length, get_or, drop, sym, refl, ap, ◌∙◌, subst}
use Rattle.std.proofs.lemmas.List.{append-nil, append_assoc, at_drop_more, at_drop_all}
use Rattle.lines.specs.Meaning.{Meaning}
use Rattle.records.specs.declared.record.Record.{Record}
use Rattle.walk_law.proofs.Listing.{Laws}
use Rattle.job_law.specs.Calls.{Opens}
use Rattle.job_law.specs.Chain.{State, with_job, with_closed, Link, opens, opens_again, runs, lays, commits, closes, begins, follows, is_open, is_close, is_made, made}
use Rattle.job_law.specs.Promise.{GoesOn, LeadsHere}
use Rattle.job_law.specs.Scene.{Scene}
use Rattle.job_law.specs.declared.call.Call.{Call}
use Rattle.job_law.specs.declared.call.Call.TheVariants.{Open, Again, Run, Lay, Commit, Close}
use Rattle.job_law.proofs.Keeping.{promised}
use Rattle.discovery.specs.Chains.{state_of, is_closed}
use Rattle.discovery.specs.declared.book.Book.{Book}
use Rattle.discovery.specs.declared.job.chain.NewestJob.{NewestJob}
use Rattle.discovery.specs.declared.job.chain.NewestJob.TheVariants as newest

-- The only call that is made after close.
pub open_alone : (call : Call) → is_open call ≡ true → call ≡ Open
open_alone Open is = refl
open_alone Again is = cc
open_alone (Run budget) is = cc
open_alone Lay is = cc
open_alone Commit is = cc
open_alone Close is = cc

-- Either call that begins a search takes the place of the job before it.
pub opens_in_place : {K : Type 0} (rank : K → ℕ) (top first count : ℕ) (s t : Scene K) (call : Call) → (call ≡ Open) ⊎ (call ≡ Again) → Opens top first count s.line s.memory t
    → Link rank top first count (with_job s) call (with_job t)
opens_in_place rank top first count s t call (inl is) o = subst (λ x. Link rank top first count (with_job s) x (with_job t)) (sym is) (opens o)
opens_in_place rank top first count s t call (inr is) o = subst (λ x. Link rank top first count (with_job s) x (with_job t)) (sym is) (opens_again o)

module _ {K : Type 0} (rank : K → ℕ) (levels top first count : ℕ) (laws : Laws rank levels top) where
  pub goes_on : (s : State K) (call : Call) (t : State K) → Link rank top first count s call t → GoesOn rank levels top first count s call t
  goes_on s call t link line memory calls chain =
      let longer = follows chain refl link in
      (longer, promised rank levels top first count laws line memory (calls ++ call ∷ []) t longer)

  pub leads_from_open : (line : Meaning K) (memory : List (Record K)) (t : Scene K) → Opens top first count line memory t
      → LeadsHere rank levels top first count line memory (Open ∷ []) (with_job t)
  leads_from_open line memory t o = (begins o, promised rank levels top first count laws line memory (Open ∷ []) (with_job t) (begins o))

abbrev state_closed : {K : Type 0} → State K → Bool
state_closed (with_job s) = false
state_closed (with_closed s) = true

closed_state : {K : Type 0} (rank : K → ℕ) (m : Meaning K) (book : Book K) (newest : NewestJob K) → state_closed (state_of rank m book newest) ≡ is_closed newest
closed_state rank m book (newest.Open job) = refl
closed_state rank m book (newest.Closed job) = refl

closed_by_link : {K : Type 0} (rank : K → ℕ) (top first count : ℕ) (s : State K) (call : Call) (t : State K) → Link rank top first count s call t
    → state_closed t ≡ is_close call
closed_by_link rank top first count s call t (opens o) = refl
closed_by_link rank top first count s call t (opens_again o) = refl
closed_by_link rank top first count s call t (runs r) = refl
closed_by_link rank top first count s call t (lays l) = refl
closed_by_link rank top first count s call t (commits c) = refl
closed_by_link rank top first count s call t (closes e) = refl

-- A list of calls, call by call.
module _ {K : Type 0} (rank : K → ℕ) (levels top first count : ℕ) (line : Meaning K) (memory : List (Record K)) (calls : List Call) where
  -- Some of the calls have led here, and what is left of the list gives the others.
  pub record SomeMade (m : Meaning K) (book : Book K) (newest : NewestJob K) (i : ℕ) : Type 0 where
    pub done : List Call
    pub leads_here : LeadsHere rank levels top first count line memory done (state_of rank m book newest)
    pub others : done ++ made (is_closed newest) (drop i calls) ≡ Open ∷ made false calls

  pub all_made : (m : Meaning K) (book : Book K) (newest : NewestJob K) (i : ℕ) → length calls ≤ i → SomeMade m book newest i
      → LeadsHere rank levels top first count line memory (Open ∷ made false calls) (state_of rank m book newest)
  all_made m book newest i all so_far =
      subst (λ c. LeadsHere rank levels top first count line memory c (state_of rank m book newest))
      (sym (append-nil so_far.done) ∙ ap (λ l. so_far.done ++ l) (sym (at_drop_all (made (is_closed newest)) calls i all)) ∙ so_far.others)
      so_far.leads_here

  module _ (m n : Meaning K) (book book' : Book K) (newest newest' : NewestJob K) (i : ℕ) (d : Call) (more : i < length calls)
      (link : is_made (is_closed newest) (get_or calls i d) ≡ true → Link rank top first count (state_of rank m book newest) (get_or calls i d) (state_of rank n book' newest'))
      (same : is_made (is_closed newest) (get_or calls i d) ≡ false → state_of rank n book' newest' ≡ state_of rank m book newest)
      (on : is_made (is_closed newest) (get_or calls i d) ≡ true → GoesOn rank levels top first count (state_of rank m book newest) (get_or calls i d) (state_of rank n book' newest'))
      (so_far : SomeMade m book newest i) where
    abbrev call : Call
    call = get_or calls i d

    left : made (is_closed newest) (drop i calls) ≡ cond (is_made (is_closed newest) call) (call ∷ made (is_close call) (drop (i + 1) calls)) (made (is_closed newest) (drop (i + 1) calls))
    left =
        at_drop_more (made (is_closed newest)) calls i d more

    pub one_more : SomeMade n book' newest' (i + 1)
    one_more = by (is_made (is_closed newest) call) refl
      where
        by : (t : Bool) → is_made (is_closed newest) call ≡ t → SomeMade n book' newest' (i + 1)
        by true is =
            let closed = sym (closed_state rank n book' newest') ∙ closed_by_link rank top first count (state_of rank m book newest) call (state_of rank n book' newest') (link is) in
            let rest = drop (i + 1) calls in
            record {
              done = so_far.done ++ call ∷ [];
              leads_here = on is line memory so_far.done so_far.leads_here.0;
              others =
                  append_assoc so_far.done (call ∷ []) (made (is_closed newest') rest)
                  ∙ ap (λ b. so_far.done ++ (call ∷ made b rest)) closed
                  ∙ ap (λ l. so_far.done ++ l) (sym (left ∙ ap (λ b. cond b (call ∷ made (is_close call) rest) (made (is_closed newest) rest)) is))
                  ∙ so_far.others;
            }
        by false is =
            let closed = sym (closed_state rank n book' newest') ∙ ap state_closed (same is) ∙ closed_state rank m book newest in
            let rest = drop (i + 1) calls in
            record {
              done = so_far.done;
              leads_here = subst (LeadsHere rank levels top first count line memory so_far.done) (sym (same is)) so_far.leads_here;
              others =
                  ap (λ b. so_far.done ++ made b rest) closed
                  ∙ ap (λ l. so_far.done ++ l) (sym (left ∙ ap (λ b. cond b (call ∷ made (is_close call) rest) (made (is_closed newest) rest)) is))
                  ∙ so_far.others;
            }
