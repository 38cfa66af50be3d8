-- No call changes which fixtures there are.
use Rattle.std.proofs.Common.{◌≡◌, ℕ, List, [], ◌∷◌, Some, None, Option, Result, sym, refl, ap, ◌∙◌, subst}
use Rattle.keys.specs.declared.address.Address.{Address}
use Rattle.lines.specs.Meaning.{Meaning, SameFixtures}
use Rattle.lines.proofs.Fixtures.{same_again, same_then, same_roused, same_rested, same_hushed, same_addressed}
use Rattle.records.specs.declared.record.Record.{Record}
use Rattle.refusals.specs.declared.Refusal.{Refusal}
use Rattle.walk_law.specs.Run.{Honest, to_probe, to_hush}
use Rattle.walk_law.specs.Walk.{Walk}
use Rattle.walk_law.specs.declared.question.Answer.{Answer}
use Rattle.job_law.specs.Calls.{Opens, Questions, no_question, then_asks, Runs, outside_walking, questions_spent, asks_on, Lays, lay_refusal, laid, Commits, commit_refusal, committed, unless_refused}
use Rattle.job_law.specs.Chain.{State, state_line, state_memory, Link, opens, opens_again, runs, lays, commits, closes}
use Rattle.job_law.specs.Numbering.{written_to, all_written}
use Rattle.job_law.specs.Scene.{Scene, ClosedScene, rows}
use Rattle.job_law.specs.declared.call.Call.{Call}
use Rattle.job_law.specs.declared.call.Ran.{Ran}

module _ {K : Type 0} (rank : K → ℕ) (top first count : ℕ) where
  same_as : (m n : Meaning K) → n ≡ m → SameFixtures m n
  same_as m n is = subst (SameFixtures m) (sym is) (same_again m)

  pub same_opened : (line : Meaning K) (memory : List (Record K)) (t : Scene K) → Opens top first count line memory t → SameFixtures line t.line
  same_opened line memory t o = subst (SameFixtures line) (sym o.line_roused) (same_roused line)

  same_honest : (m n : Meaning K) (w : Walk) (a : Answer K) → Honest rank m w a n → SameFixtures m n
  same_honest m n w a (to_probe range p asks probed is same) = same_as m n same
  same_honest m n w a (to_hush k asks is same) = subst (SameFixtures m) (sym same) (same_hushed rank m k)

  same_questions : (s t : Scene K) (i : ℕ) → Questions rank s i t → SameFixtures s.line t.line
  same_questions s t i no_question = same_again s.line
  same_questions s t i (then_asks {i = j} {s = u} before asks) =
      same_then s.line u.line t.line (same_questions s u j before) (same_honest u.line t.line u.walk asks.reply asks.honest)

  same_run : (budget : ℕ) (s t : Scene K) (r : Result Ran Refusal) → Runs rank budget s r t → SameFixtures s.line t.line
  same_run budget s t r (outside_walking phase answer is) = same_as s.line t.line (ap (λ (x : Scene K). x.line) is)
  same_run budget s t r (questions_spent phase spent answer is) = same_as s.line t.line (ap (λ (x : Scene K). x.line) is)
  same_run budget s t r (asks_on i phase few questions bound stops answer) = same_questions s t i questions

  same_lay : (s t : Scene K) (r : Result (Unit {0}) Refusal) → Lays first count s r t → SameFixtures s.line t.line
  same_lay s t r l = same_as s.line t.line (ap (λ (x : Scene K). x.line) l.scene ∙ by (lay_refusal count s))
    where
      by : (o : Option Refusal) → (unless_refused o s (laid first s)).line ≡ s.line
      by (Some refusal) = refl
      by None = refl

  same_written : (m : Meaning K) (k : K) (a : Option Address) → SameFixtures m (written_to rank first count m k a)
  same_written m k (Some a) = same_addressed rank first count m k a
  same_written m k None = same_again m

  same_all_written : (m : Meaning K) (rs : List (Record K)) → SameFixtures m (all_written rank first count m rs)
  same_all_written m [] = same_again m
  same_all_written m (row ∷ rs) =
      let n = written_to rank first count m row.key row.address in
      same_then m n (all_written rank first count n rs) (same_written m row.key row.address) (same_all_written n rs)

  same_commit : (s t : Scene K) (r : Result (Unit {0}) Refusal) → Commits rank first count s r t → SameFixtures s.line t.line
  same_commit s t r c = subst (λ (x : Scene K). SameFixtures s.line x.line) (sym c.scene) (by (commit_refusal first count s))
    where
      by : (o : Option Refusal) → SameFixtures s.line (unless_refused o s (committed rank first count s)).line
      by (Some refusal) = same_again s.line
      by None = same_all_written s.line (rows s)

  pub same_link : (s : State K) (call : Call) (t : State K) → Link rank top first count s call t → SameFixtures (state_line s) (state_line t)
  same_link s call t (opens {t = u} o) = same_opened (state_line s) (state_memory s) u o
  same_link s call t (opens_again {s = v} {t = u} o) = same_opened v.line v.memory u o
  same_link s call t (runs {s = v} {t = u} {budget = b} {r = r} ran) = same_run b v u r ran
  same_link s call t (lays {s = v} {t = u} {r = r} l) = same_lay v u r l
  same_link s call t (commits {s = v} {t = u} {r = r} c) = same_commit v u r c
  same_link s call t (closes {s = v} {t = u} is) =
      subst (λ (x : ClosedScene K). SameFixtures v.line x.line) (sym is) (same_rested v.line)
