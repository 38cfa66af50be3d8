use Rattle.std.proofs.Common.{◌≡◌, ℕ, ◌+◌, ◌*◌, ◌≤◌, cond, List, drop, Some, None, sum, Option}
use Rattle.lines.specs.Meaning.{Meaning}
use Rattle.records.specs.declared.record.Record.{Record}
use Rattle.job_law.specs.Numbering.{asked_widths, all_answered, told_widths, total_of}
use Rattle.discovery.proofs.job.laying.total_width.Given as goal

-- What the sum comes to, if it is so much before these rows.
abbrev total_on : {K : Type 0} → Meaning K → ℕ → List (Record K) → Option ℕ
total_on m t rows = cond (all_answered (asked_widths m rows)) (Some (t + sum (told_widths m rows))) None

-- The line is as it was, what is left gives the sum, and each row so far added at most 65535.
abbrev pub invariant-loop-row : goal.invariant-loop-row
invariant-loop-row g l =
    let m = g.L.Line.means l.initial.line in
    (g.L.Line.means l.line ≡ m) × (total_on m l.total (drop l.row-index l.rows) ≡ total_of m l.rows) × (l.total ≤ 65535 * l.row-index)
