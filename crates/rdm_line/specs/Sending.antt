-- A frame that every fixture of a table hears: the table afterwards, and what is then on the cable.
use Rattle.std.specs.Prelude.{ℕ, List, [], ◌∷◌, map, Some, None, Option}
use Rattle.keys.specs.declared.uid.Uid.{Uid}
use Rattle.fixtures.specs.Reaction.{reaction}
use Rattle.fixtures.specs.declared.fixture.Fixture.{Fixture}
use Rattle.rdm_line.specs.Cable.{Signal, quiet, carrying, joined}
use Rattle.rdm_line.specs.declared.mode.Mode.{Mode}

-- What a key puts on the cable that replies these bytes, or nothing.
abbrev pub spoken : Uid → Option (List ℕ) → Signal
spoken key (Some bytes) = carrying bytes key
spoken key None = quiet

-- What one fixture puts on the cable, and what becomes of it.
abbrev pub reply_to : List ℕ → Fixture → Signal
reply_to frame f = spoken f.key (reaction f frame).1

abbrev pub after : List ℕ → Fixture → Fixture
after frame f = (reaction f frame).0

-- All signals together, after what was there before.
abbrev pub gathered : Mode → Signal → List Signal → Signal
gathered mode s [] = s
gathered mode s (t ∷ ts) = gathered mode (joined mode s t) ts

abbrev pub replies_to : Mode → List ℕ → List Fixture → Signal
replies_to mode frame fs = gathered mode quiet (map (reply_to frame) fs)
