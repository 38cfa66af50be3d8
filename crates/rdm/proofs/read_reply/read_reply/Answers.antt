use Rattle.std.proofs.Common.{ap, ◌∙◌}
use Rattle.std.proofs.lemmas.Result.{err_from_is_err_and}
use Rattle.rdm.specs.ReadReply.{reply_at, reply_in}
use Rattle.rdm.proofs.read_reply.read_reply.Goals as goal

pub returns-in_err-packet : goal.returns-in_err-packet
unfolding reply_at
returns-in_err-packet c =
    let p = err_from_is_err_and c.from_residual.result c.from_residual.ensures.1 in
    let read = ap (reply_in c.args.expected) c.in_err-packet.ensures in
    rw (p.1, p.2) read

pub returns : goal.returns
unfolding reply_at
returns c = c.match_reply.ensures ∙ ap (reply_in c.args.expected) c.in_ok-packet.ensures
