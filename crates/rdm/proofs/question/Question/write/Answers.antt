use Rattle.std.proofs.Common.{rules}
use Rattle.rdm.proofs.QuestionsReadBack.{question_written}
use Rattle.rdm.proofs.question.Question.write.Goals as goal

pub returns-in-Branch-clause-reads_back : goal.returns-in-Branch-clause-reads_back
returns-in-Branch-clause-reads_back c =
    question_written c.args.self c.args.transaction (search rules) c.args.buf.now _ _ (search rules) (search rules)

pub returns-in-StartAddress-clause-reads_back : goal.returns-in-StartAddress-clause-reads_back
returns-in-StartAddress-clause-reads_back c =
    question_written c.args.self c.args.transaction (search rules) c.args.buf.now _ _ (search rules) (search rules)

pub returns-in-Mute-clause-reads_back : goal.returns-in-Mute-clause-reads_back
returns-in-Mute-clause-reads_back c =
    question_written c.args.self c.args.transaction (search rules) c.args.buf.now _ _ (search rules) (search rules)
