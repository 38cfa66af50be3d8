use Rattle.std.proofs.Common.{◌≡◌, drop}
use Rattle.job_law.specs.Numbering.{all_stand}
use Rattle.discovery.proofs.job.committing.all_stand.Given as goal

-- The line is as it was, and what is left decides.
abbrev pub invariant-loop-row : goal.invariant-loop-row
invariant-loop-row g l =
    let m = g.L.Line.means l.initial.line in
    (g.L.Line.means l.line ≡ m)
    × (all_stand g.L.Key.Family.first g.L.Key.Family.count m (drop l.row-index l.rows) ≡ all_stand g.L.Key.Family.first g.L.Key.Family.count m l.rows)
