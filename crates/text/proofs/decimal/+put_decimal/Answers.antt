use Rattle.std.proofs.Common.{◌/◌, [], ◌∷◌, ◌++◌, length, decimal, sym, subst, ap, ◌∙◌, arith, rules}
use Rattle.octets.specs.Writer.{HasRoom, Wrote}
use Rattle.octets.proofs.Writing.{wrote_nothing, wrote_next}
use Rattle.text.proofs.DecimalText.{number_of_text}
use Rattle.text.proofs.Decimals.{one_digit, more_digits, length_more}
use Rattle.text.proofs.decimal.+put_decimal.Goals.{then-number-ge10, else-number-ge10}
use Rattle.text.proofs.decimal.+put_decimal.Goals as goal

pub put_decimal-requires : goal.put_decimal-requires
put_decimal-requires t c = (omega arith, omega (arith, length_more c.args.number c.if-number-ge10.true (search rules)))

pub put-requires : goal.put-requires
put-requires t c =
    elim c.if-number-ge10.branch [
      | then-number-ge10 w ↦
          subst (HasRoom 1) (sym w.out-is) (omega (arith, length_more c.args.number w.if-number-ge10.true (search rules)))
      | else-number-ge10 w ↦ subst (HasRoom 1) (sym w.out-is) (omega (arith, ap length (one_digit c.args.number w.if-number-ge10.false)))
    ]

pub returns-clause-text : goal.returns-clause-text
returns-clause-text t c =
    let n = c.args.number in
    elim c.if-number-ge10.branch [
      | then-number-ge10 w ↦
          wrote_next _ _ _ (decimal (n / 10)) _ _ (subst (Wrote c.args.out.now (decimal (n / 10))) (sym w.out-is) w.put_decimal.ensures.text)
          c.put.ensures
          (ap (λ d. decimal (n / 10) ++ (d ∷ [])) c.digit_char.ensures ∙ sym (more_digits n w.if-number-ge10.true (search rules)))
      | else-number-ge10 w ↦
          wrote_next _ _ _ [] _ _ (subst (Wrote c.args.out.now []) (sym w.out-is) (wrote_nothing c.args.out.now)) c.put.ensures
          (ap (λ d. d ∷ []) c.digit_char.ensures ∙ sym (one_digit n w.if-number-ge10.false))
    ]

pub returns-clause-reads_back : goal.returns-clause-reads_back
returns-clause-reads_back t c = number_of_text c.args.number
