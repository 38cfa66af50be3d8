use Rattle.std.proofs.Common.{sym}
use Rattle.lines.proofs.Among.{first_tells}
use Rattle.lines.proofs.twice.has_twice.Goals as goal

pub returns-then-contains : goal.returns-then-contains
returns-then-contains c =
    sym (first_tells c.args.numbers.now c.loop-number.rest.now c.in-Some.behind.now c.in-Some.number.now _ _ c.loop-number.invariant c.in-Some.ensures.cases.0 c.contains.ensures.value c.if-contains.true)

pub loop-number-preserved : goal.loop-number-preserved
loop-number-preserved c =
    sym (first_tells c.args.numbers.now c.loop-number.rest.now c.in-Some.behind.now c.in-Some.number.now _ _ c.loop-number.invariant c.in-Some.ensures.cases.0 c.contains.ensures.value c.if-contains.false)
