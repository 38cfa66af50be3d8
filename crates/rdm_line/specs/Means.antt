-- What an RDM line means, read off its table.
use Rattle.std.specs.Prelude.{Bool, not, List, Option, ◌==◌}
use Rattle.std.specs.List.{find}
use Rattle.std.specs.Option.{option_map}
use Rattle.keys.specs.Uid.{uid_number}
use Rattle.keys.specs.declared.uid.Uid.{Uid}
use Rattle.fixtures.specs.declared.fixture.Fixture.{Fixture}
use Rattle.lines.specs.Meaning.{Fitted, Meaning}
use Rattle.rdm_line.specs.State.{State, state_of, fitted}
use Rattle.rdm_line.specs.declared.line.RdmLine.{RdmLine}

abbrev pub has_key : Uid → Fixture → Bool
has_key key f = uid_number key == uid_number f.key

-- The fixture that has a key.
abbrev pub fixture_at : List Fixture → Uid → Option Fixture
fixture_at fs key = find (has_key key) fs

-- A fixture takes part in a search while it is not muted.
abbrev pub seen : Fixture → Fitted
seen f = record { awake = not f.muted; width = f.width; address = f.address }

unfoldable pub meaning_of : State → Meaning Uid
meaning_of s = record { live = s.live; at = λ key. option_map seen (fixture_at (fitted s) key) }

abbrev pub line_means : RdmLine → Meaning Uid
line_means line = meaning_of (state_of line)
