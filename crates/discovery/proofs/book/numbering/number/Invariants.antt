use Rattle.std.proofs.Common.{◌≡◌, ◌+◌, ◌++◌, length, take, drop, sum}
use Rattle.job_law.specs.Numbering.{numbered, told_widths}
use Rattle.discovery.proofs.book.numbering.number.Given as goal

-- The line is as it was, and what is left gives the rows and takes the slots that were promised.
abbrev pub invariant-loop-row : goal.invariant-loop-row
invariant-loop-row g l =
    let m = g.L.Line.means l.initial.line in
    (g.L.Line.means l.line ≡ m)
    × (take l.row-index l.rows ++ numbered l.next m (drop l.row-index l.rows) ≡ numbered l.first m l.initial.rows)
    × (l.next + sum (told_widths m (drop l.row-index l.rows)) ≡ l.first + sum (told_widths m l.initial.rows))
    × (length l.rows ≡ length l.initial.rows)
