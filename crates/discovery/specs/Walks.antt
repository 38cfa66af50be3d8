-- A walk and the rows of its book, by rank.
use Rattle.std.specs.Prelude.{ℕ, suc, cond, not, ◌&&◌, List, Some, None, Option}
use Rattle.std.specs.Option.{option_map}
use Rattle.keys.specs.declared.range.Range.{Range}
use Rattle.lines.specs.declared.answers.ProbeAnswer.{ProbeAnswer}
use Rattle.lines.specs.declared.answers.ProbeAnswer.TheVariants.{Silent, Clear, Garbled}
use Rattle.records.specs.Rows.{row_ranks}
use Rattle.records.specs.declared.record.Record.{Record}
use Rattle.walk_law.specs.Ranks.{is_in}
use Rattle.walk_law.specs.Walk as law
use Rattle.discovery.specs.Pending.{ranks_of}
use Rattle.discovery.specs.declared.walk.Walk.{Walk}

-- A walk with these ranks listed.
abbrev pub standing : {K : Type 0} → (K → ℕ) → Walk K → List ℕ → law.Walk
standing rank w listed = record {
  phase = w.phase;
  pending = ranks_of rank w.pending;
  hushing = option_map rank w.hushing;
  listed = listed;
  questions = w.questions;
}

abbrev pub walk_of : {K : Type 0} → (K → ℕ) → Walk K → List (Record K) → law.Walk
walk_of rank w rows = standing rank w (row_ranks rank rows)

-- The walk with the hush of a key next, and one question more.
abbrev pub with_hush : ℕ → law.Walk → law.Walk
with_hush k w = record {
  phase = w.phase;
  pending = w.pending;
  hushing = Some k;
  listed = w.listed;
  questions = suc w.questions;
}

-- The walk with a probe of its lowest range next, these ranks listed, and one question more.
abbrev pub with_probe : List ℕ → law.Walk → law.Walk
with_probe listed w = record {
  phase = w.phase;
  pending = w.pending;
  hushing = None;
  listed = listed;
  questions = suc w.questions;
}

-- The key that an answer to a probe hints at: one of the range that is not listed.
abbrev pub hinted : Range ℕ → List ℕ → ProbeAnswer ℕ → Option ℕ
hinted r listed Silent = None
hinted r listed (Clear k) = cond (law.in_range k r && not (is_in k listed)) (Some k) None
hinted r listed Garbled = None
