use Rattle.std.proofs.Common.{sym, subst, rules}
use Rattle.octets.specs.Writer.{Wrote}
use Rattle.octets.proofs.Writing.{wrote_more}
use Rattle.requests.proofs.Answers.{long_line, short_line}
use Rattle.requests.proofs.put_line.Goals as goal

pub returns-then-line-gt-LONGEST : goal.returns-then-line-gt-LONGEST
returns-then-line-gt-LONGEST c =
    subst (λ text. Wrote c.args.out.now text c.put.new.self) (sym (long_line c.args.line.now c.if-line-gt-LONGEST.true)) c.put.ensures

pub returns-else-line-gt-LONGEST : goal.returns-else-line-gt-LONGEST
returns-else-line-gt-LONGEST c = rw (short_line c.args.line.now c.if-line-gt-LONGEST.false) (search (rules, wrote_more))
