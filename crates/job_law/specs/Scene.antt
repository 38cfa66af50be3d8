-- What a call finds and leaves: what the line means, the memory and the rows of the book, and the job.
use Rattle.std.specs.Prelude.{ℕ, min, List, length, take}
use Rattle.lines.specs.Meaning.{Meaning}
use Rattle.records.specs.declared.record.Record.{Record}
use Rattle.walk_law.specs.Walk.{Walk}
use Rattle.walk_law.specs.declared.phase.Phase.{Phase}

pub record Scene (K : Type 0) : Type 0 where
  pub line : Meaning K
  -- All of the memory that the book was lent, and how many records of it are rows.
  pub memory : List (Record K)
  pub count : ℕ
  -- The job: its phase, what it has still to ask and how much it has asked, with the ranks that the rows list.
  pub walk : Walk

-- After close: the closed job's phase and questions.
pub record ClosedScene (K : Type 0) : Type 0 where
  pub line : Meaning K
  pub memory : List (Record K)
  pub count : ℕ
  pub phase : Phase
  pub questions : ℕ

abbrev pub rows : {K : Type 0} → Scene K → List (Record K)
rows s = take s.count s.memory

-- The first 65,536 records of the memory are the places of the book.
abbrev pub places : {K : Type 0} → Scene K → ℕ
places s = min (length s.memory) 65536

-- The job in another phase.
abbrev pub in_phase : Phase → Walk → Walk
in_phase phase w = record {
  phase = phase;
  pending = w.pending;
  hushing = w.hushing;
  listed = w.listed;
  questions = w.questions;
}

abbrev pub closed_rows : {K : Type 0} → ClosedScene K → List (Record K)
closed_rows s = take s.count s.memory

abbrev pub closed_places : {K : Type 0} → ClosedScene K → ℕ
closed_places s = min (length s.memory) 65536
