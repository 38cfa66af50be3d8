use Rattle.std.proofs.Common.{rules}
use Rattle.rdm.proofs.RepliesReadBack.{reply_written}
use Rattle.rdm.proofs.reply.Reply.write.Goals as goal

pub returns-in-Muted-clause-reads_back : goal.returns-in-Muted-clause-reads_back
returns-in-Muted-clause-reads_back c =
    reply_written c.args.self c.args.question (search rules) c.args.buf.now _ _ (search rules) (search rules)

pub returns-in-Info-clause-reads_back : goal.returns-in-Info-clause-reads_back
returns-in-Info-clause-reads_back c =
    reply_written c.args.self c.args.question (search rules) c.args.buf.now _ _ (search rules) (search rules)

pub returns-in-AddressTaken-clause-reads_back : goal.returns-in-AddressTaken-clause-reads_back
returns-in-AddressTaken-clause-reads_back c =
    reply_written c.args.self c.args.question (search rules) c.args.buf.now _ _ (search rules) (search rules)

pub returns-in-AddressRefused-clause-reads_back : goal.returns-in-AddressRefused-clause-reads_back
returns-in-AddressRefused-clause-reads_back c =
    reply_written c.args.self c.args.question (search rules) c.args.buf.now _ _ (search rules) (search rules)
