use Rattle.std.proofs.Common.{sym, subst, arith}
use Rattle.octets.specs.Writer.{HasRoom}
use Rattle.requests.specs.Answer.{known_answer, answer_text}
use Rattle.requests.proofs.Answers.{some_answer, nothing_put, no_answer}
use Rattle.requests.proofs.put_answer.Goals as goal

pub put-requires : goal.put-requires
put-requires c =
    let same = nothing_put _ _ _ (known_answer c.args.line.text.now) c.answer_known.ensures c.if-is_none.ensures in
    subst (HasRoom 1) (sym same) (omega arith)

pub returns-then-is_none : goal.returns-then-is_none
unfolding answer_text
returns-then-is_none c = no_answer _ _ _ (known_answer c.args.line.text.now) _ c.answer_known.ensures c.if-is_none.ensures c.put.ensures

pub returns-else-is_none : goal.returns-else-is_none
unfolding answer_text
returns-else-is_none c = some_answer _ _ _ (known_answer c.args.line.text.now) c.answer_known.ensures c.if-is_none.ensures
