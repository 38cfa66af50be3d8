-- Chains of calls.
use Rattle.std.specs.Prelude.{◌≡◌, ℕ, Bool, true, false, cond, not, ◌||◌, List, [], ◌∷◌, ◌++◌, Result}
use Rattle.lines.specs.Meaning.{Meaning}
use Rattle.records.specs.declared.record.Record.{Record}
use Rattle.refusals.specs.declared.Refusal.{Refusal}
use Rattle.job_law.specs.Calls.{Opens, Runs, Lays, Commits, closed}
use Rattle.job_law.specs.Scene.{Scene, ClosedScene}
use Rattle.job_law.specs.declared.call.Call.{Call}
use Rattle.job_law.specs.declared.call.Call.TheVariants.{Open, Again, Run, Lay, Commit, Close}
use Rattle.job_law.specs.declared.call.Ran.{Ran}

-- Where a chain stands: with a job, or with a closed job.
pub data State (K : Type 0) : Type 0 where
  with_job : Scene K → State K
  with_closed : ClosedScene K → State K

abbrev pub state_line : {K : Type 0} → State K → Meaning K
state_line (with_job s) = s.line
state_line (with_closed s) = s.line

abbrev pub state_memory : {K : Type 0} → State K → List (Record K)
state_memory (with_job s) = s.memory
state_memory (with_closed s) = s.memory

-- What may happen between two links: nothing.
abbrev pub Between : {K : Type 0} → State K → State K → Type 0
Between s t = s ≡ t

module _ {K : Type 0} (rank : K → ℕ) (top first count : ℕ) where
  -- One call made where a chain stands. Each is the relation that is the contract of the call; after close only open follows.
  pub data Link : State K → Call → State K → Type 0 where
    opens : {s : State K} {t : Scene K} → Opens top first count (state_line s) (state_memory s) t → Link s Open (with_job t)
    opens_again : {s t : Scene K} → Opens top first count s.line s.memory t → Link (with_job s) Again (with_job t)
    runs : {s t : Scene K} {budget : ℕ} {r : Result Ran Refusal} → Runs rank budget s r t → Link (with_job s) (Run budget) (with_job t)
    lays : {s t : Scene K} {r : Result (Unit {0}) Refusal} → Lays first count s r t → Link (with_job s) Lay (with_job t)
    commits : {s t : Scene K} {r : Result (Unit {0}) Refusal} → Commits rank first count s r t → Link (with_job s) Commit (with_job t)
    closes : {s : Scene K} {t : ClosedScene K} → t ≡ closed s → Link (with_job s) Close (with_closed t)

  -- The calls that were made on a line and the memory of a book, in their order, and where they have led. A chain begins with
  -- open, whatever line and book are then.
  pub data Chain (line : Meaning K) (memory : List (Record K)) : List Call → State K → Type 0 where
    begins : {t : Scene K} → Opens top first count line memory t → Chain line memory (Open ∷ []) (with_job t)
    follows : {calls : List Call} {s t u : State K} {call : Call} → Chain line memory calls s → Between s t → Link t call u
        → Chain line memory (calls ++ call ∷ []) u

abbrev pub is_open : Call → Bool
is_open Open = true
is_open Again = false
is_open (Run budget) = false
is_open Lay = false
is_open Commit = false
is_open Close = false

abbrev pub is_close : Call → Bool
is_close Open = false
is_close Again = false
is_close (Run budget) = false
is_close Lay = false
is_close Commit = false
is_close Close = true

-- Whether a call is made where the job is closed, or not.
abbrev pub is_made : Bool → Call → Bool
is_made is_closed call = not is_closed || is_open call

-- Which calls of a list are made: after close, those before the next open are not.
abbrev pub made : Bool → List Call → List Call
made is_closed [] = []
made is_closed (call ∷ calls) = cond (is_made is_closed call) (call ∷ made (is_close call) calls) (made is_closed calls)
