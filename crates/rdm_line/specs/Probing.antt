-- The answer to a probe, from the keys that reply.
use Rattle.std.specs.Prelude.{ℕ, Bool, cond, List, [], ◌∷◌, map, filter, bit_and, bit_or}
use Rattle.keys.specs.Uid.{uid_number}
use Rattle.keys.specs.declared.range.Range.{Range}
use Rattle.keys.specs.declared.uid.Uid.{Uid}
use Rattle.branch.specs.BranchReply.{branch_reply, branch_read}
use Rattle.branch.specs.Overlaid.{overlaid}
use Rattle.fixtures.specs.Reaction.{calls}
use Rattle.fixtures.specs.declared.fixture.Fixture.{Fixture}
use Rattle.lines.specs.declared.answers.ProbeAnswer.{ProbeAnswer}
use Rattle.lines.specs.declared.answers.ProbeAnswer.TheVariants.{Silent, Clear, Garbled}
use Rattle.rdm_line.specs.Cable.{lower}
use Rattle.rdm_line.specs.Heard.{read_as}
use Rattle.rdm_line.specs.State.{State, fitted}
use Rattle.rdm_line.specs.declared.mode.Mode.{Mode}
use Rattle.rdm_line.specs.declared.mode.Mode.TheVariants.{Garble, Or, And, Lowest}

-- Not muted, and with a key of the range.
abbrev pub calls_in : Range Uid → Fixture → Bool
calls_in range f = calls (uid_number range.lo) (uid_number range.hi) f

-- The keys of a range that are not muted, in the order of the table.
abbrev pub callers : Range Uid → List Fixture → List Uid
callers range fs = map (λ f. f.key) (filter (calls_in range) fs)

abbrev pub own_reply : Uid → List ℕ
own_reply key = branch_reply (uid_number key)

-- The replies of all these keys, bit by bit over bytes.
abbrev pub overlapped : (ℕ → ℕ → ℕ) → List ℕ → List Uid → List ℕ
overlapped join bytes [] = bytes
overlapped join bytes (key ∷ keys) = overlapped join (overlaid join bytes (own_reply key)) keys

abbrev pub lowest : Uid → List Uid → Uid
lowest key [] = key
lowest key (other ∷ others) = lowest (lower key other) others

-- Nobody is silence, and one key alone is read. More are noise, or what their bits together read as, or the lowest key.
unfoldable pub heard_from : Mode → List Uid → ProbeAnswer ℕ
heard_from mode [] = Silent
heard_from Garble (key ∷ []) = Clear (uid_number key)
heard_from Garble (key ∷ other ∷ others) = Garbled
heard_from Or (key ∷ others) = read_as (branch_read (overlapped bit_or (own_reply key) others))
heard_from And (key ∷ others) = read_as (branch_read (overlapped bit_and (own_reply key) others))
heard_from Lowest (key ∷ others) = Clear (uid_number (lowest key others))

-- A line that is shut hears nothing.
unfoldable pub probe_answer : State → Range Uid → ProbeAnswer ℕ
probe_answer s range = cond s.live (heard_from s.mode (callers range (fitted s))) Silent
