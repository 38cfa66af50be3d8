use Rattle.std.proofs.Common.{◌++◌, drop, sym, ap, ◌∙◌}
use Rattle.job_law.specs.Calls.{refused_or_done, widths_refusal}
use Rattle.job_law.specs.Numbering.{numbered}
use Rattle.discovery.specs.Books.{memory_of, rows_of}
use Rattle.discovery.proofs.Laying.{lay_done}
use Rattle.discovery.proofs.job.Job.lay.Goals as goal

pub returns : goal.returns
returns g c =
    let m = g.L.Line.means c.args.line.now in
    let checked = sym c.in_ok-check.was ∙ c.check.ensures.value ∙ ap (λ phase. refused_or_done (widths_refusal phase g.K.Family.count m (rows_of c.args.book.now))) c.phase.ensures in
    let b = c.args.book.now in
    let written =
    c.number.ensures.after
    ∙ ap (λ n. numbered c.first_address.result n (rows_of b) ++ drop b.count (memory_of b)) c.check.ensures.same
    ∙ ap (λ first. numbered first m (rows_of b) ++ drop b.count (memory_of b)) c.first_address.ensures in
    lay_done g.K.Family.rank g.K.Family.first g.K.Family.count m (g.L.Line.means c.number.new.line) c.args.book.now c.args.self.now
    (c.number.ensures.same ∙ c.check.ensures.same)
    c.number.new.self c.enter.new.self c.number.ensures.count written c.enter.ensures checked
