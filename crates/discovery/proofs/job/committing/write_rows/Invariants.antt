use Rattle.std.proofs.Common.{◌≡◌, drop}
use Rattle.job_law.specs.Numbering.{all_written}
use Rattle.discovery.proofs.job.committing.write_rows.Given as goal

-- With what is left written, all are.
abbrev pub invariant-loop-row : goal.invariant-loop-row
invariant-loop-row g l =
    all_written g.L.Key.Family.rank g.L.Key.Family.first g.L.Key.Family.count (g.L.Line.means l.line) (drop l.row-index l.rows)
    ≡ all_written g.L.Key.Family.rank g.L.Key.Family.first g.L.Key.Family.count (g.L.Line.means l.initial.line) l.rows
