-- When a job can be laid, and when it can be committed.
use Rattle.std.proofs.Common.{◌≡◌, ℕ, ◌≤◌, Bool, true, false, cond, not, ltb, List, Some, None, sum, refl}
use Rattle.std.proofs.lemmas.Bool.{ltb-false}
use Rattle.lines.specs.Meaning.{Meaning}
use Rattle.records.specs.declared.record.Record.{Record}
use Rattle.refusals.specs.declared.Refusal.TheVariants.{NoAnswer, TooWide}
use Rattle.walk_law.specs.declared.phase.Phase.{Phase}
use Rattle.walk_law.specs.declared.phase.Phase.TheVariants.{Walking, Walked, Laid, Set, Full, Contradicted}
use Rattle.job_law.specs.Calls.{widths_refusal, rows_refusal}
use Rattle.job_law.specs.Numbering.{asked_widths, all_answered, told_widths}

module _ {K : Type 0} where
  -- Walked, every key answers, and there are slots for all.
  pub lay_free : (count : ℕ) (phase : Phase) (m : Meaning K) (rows : List (Record K)) → widths_refusal phase count m rows ≡ None
      → (phase ≡ Walked) × (all_answered (asked_widths m rows) ≡ true) × (sum (told_widths m rows) ≤ count)
  lay_free count Walked m rows e = by (all_answered (asked_widths m rows)) (ltb count (sum (told_widths m rows))) refl refl e
    where
      by : (a b : Bool) → all_answered (asked_widths m rows) ≡ a → ltb count (sum (told_widths m rows)) ≡ b
          → cond (not a) (Some NoAnswer) (cond b (Some TooWide) None) ≡ None
          → (Walked ≡ Walked) × (all_answered (asked_widths m rows) ≡ true) × (sum (told_widths m rows) ≤ count)
      by true false is fits none = (refl, is, ltb-false _ _ fits)
      by true true is fits none = cc
      by false b is fits none = cc
  lay_free count Walking m rows e = cc
  lay_free count Laid m rows e = cc
  lay_free count Set m rows e = cc
  lay_free count Full m rows e = cc
  lay_free count Contradicted m rows e = cc

  pub commit_laid : (first count : ℕ) (phase : Phase) (m : Meaning K) (rows : List (Record K)) → rows_refusal phase first count m rows ≡ None → phase ≡ Laid
  commit_laid first count Laid m rows e = refl
  commit_laid first count Walking m rows e = cc
  commit_laid first count Walked m rows e = cc
  commit_laid first count Set m rows e = cc
  commit_laid first count Full m rows e = cc
  commit_laid first count Contradicted m rows e = cc
