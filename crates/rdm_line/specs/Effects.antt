-- What each function of the line leaves of all that it holds.
use Rattle.std.specs.Prelude.{true, false, cond, ◌&&◌, map, ◌==◌}
use Rattle.keys.specs.Address.{in_family}
use Rattle.keys.specs.declared.address.Address.{Address}
use Rattle.keys.specs.declared.uid.Uid.{Uid}
use Rattle.fixtures.specs.Reaction.{with_muted, with_address}
use Rattle.fixtures.specs.declared.fixture.Fixture.{Fixture}
use Rattle.rdm_line.specs.Means.{has_key}
use Rattle.rdm_line.specs.State.{State, with_fitted, with_live}

-- The fixture with a key changes so, and no other.
abbrev pub at_key : Uid → (Fixture → Fixture) → Fixture → Fixture
at_key key change f = cond (has_key key f) (change f) f

-- A fixture that takes slots begins at this address.
abbrev pub moved_to : Address → Fixture → Fixture
moved_to a f = cond (f.width == 0) f (with_address a f)

-- rouse: live, and every fitted fixture is un-muted.
unfoldable pub roused_state : State → State
roused_state s = with_live true (with_fitted (map (with_muted false)) s)

-- rest: shut, and every fitted fixture is muted. A line that is shut stays as it is.
unfoldable pub rested_state : State → State
rested_state s = cond s.live (with_live false (with_fitted (map (with_muted true)) s)) s

-- hush: the fixture with the key is muted. A line that is shut stays as it is.
unfoldable pub hushed_state : Uid → State → State
hushed_state key s = cond s.live (with_fitted (map (at_key key (with_muted true))) s) s

-- set: the fixture with the key takes the address. A line that is shut stays as it is, and so does every line where there
-- is no such address.
unfoldable pub addressed_state : Uid → Address → State → State
addressed_state key a s = cond (s.live && in_family 1 512 a) (with_fitted (map (at_key key (moved_to a))) s) s
