use Rattle.std.proofs.Common.{arith, rules}
use Rattle.octets.proofs.Writing.{wrote_more}
use Rattle.shown.specs.Shown.{read_reply_text}
use Rattle.shown.proofs.Texts.{response_short, place_short}
use Rattle.shown.proofs.put_read_reply.Goals as goal

pub put_decimal-requires : goal.put_decimal-requires
put_decimal-requires c = omega (arith, response_short c.args.reply.response, place_short c.args.reply.place c.args.reply.behind_the_header)

pub returns : goal.returns
unfolding read_reply_text
returns c = search (rules, wrote_more)
