use Rattle.std.proofs.Common.{List, [], ◌∷◌}
use Rattle.lines.specs.Meaning.{Meaning}
use Rattle.records.specs.declared.record.Record.{Record}
use Rattle.job_law.specs.Promise.{LeadsHere}
use Rattle.job_law.specs.declared.call.Call.TheVariants.{Open}
use Rattle.discovery.specs.Chains.{state_of}
use Rattle.discovery.proofs.Chaining.{SomeMade}
use Rattle.discovery.proofs.job.chain.follow.Given as goal

-- On whatever line and memory open has led to the first link, some of the calls have led here.
abbrev pub invariant-loop-call : goal.invariant-loop-call
invariant-loop-call g l =
    (line : Meaning g.row.L-Key.Denot) (memory : List (Record g.row.L-Key.Denot))
    → LeadsHere g.L.Key.Family.rank g.L.Key.Family.levels g.L.Key.Family.top g.L.Key.Family.first g.L.Key.Family.count line memory (Open ∷ [])
    (state_of g.L.Key.Family.rank (g.L.Line.means l.initial.line) l.initial.book l.initial.newest)
    → SomeMade g.L.Key.Family.rank g.L.Key.Family.levels g.L.Key.Family.top g.L.Key.Family.first g.L.Key.Family.count line memory l.calls
    (g.L.Line.means l.line) l.book l.newest l.call-index
