-- All that a line holds, and how it changes.
use Rattle.std.specs.Prelude.{ℕ, Bool, List, ◌++◌, take, drop}
use Rattle.fixtures.specs.declared.fixture.Fixture.{Fixture}
use Rattle.rdm_line.specs.declared.line.RdmLine.{RdmLine}
use Rattle.rdm_line.specs.declared.mode.Mode.{Mode}

pub record State : Type 0 where
  -- The whole table, the empty places too.
  pub places : List Fixture
  pub count : ℕ
  pub mode : Mode
  pub live : Bool

abbrev pub state_of : RdmLine → State
state_of line = record { places = line.fixtures; count = line.count; mode = line.mode; live = line.live }

abbrev pub fitted : State → List Fixture
fitted s = take s.count s.places

-- The fitted fixtures change so, and nothing else.
abbrev pub with_fitted : (List Fixture → List Fixture) → State → State
with_fitted change s = record {
  places = change (fitted s) ++ drop s.count s.places;
  count = s.count;
  mode = s.mode;
  live = s.live;
}

abbrev pub with_live : Bool → State → State
with_live live s = record { places = s.places; count = s.count; mode = s.mode; live = live }
