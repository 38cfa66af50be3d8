use Rattle.std.proofs.Common.{length, decimal, ap, ◌++◌, codes, arith}
use Rattle.octets.proofs.Writing.{wrote_next}
use Rattle.shown.specs.Shown.{refusal_text}
use Rattle.shown.proofs.Texts.{number_short}
use Rattle.shown.proofs.put_refusal.Goals as goal

pub put_decimal-requires : goal.put_decimal-requires
put_decimal-requires c = omega (arith, number_short c.args.refusal, ap (λ n. length (decimal n)) c.number.ensures)

pub returns : goal.returns
unfolding refusal_text
returns c = wrote_next _ _ _ _ _ _ c.put.ensures c.put_decimal.ensures.text (ap (λ n. codes "! " ++ decimal n) c.number.ensures)
