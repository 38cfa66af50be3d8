use Rattle.std.proofs.Common.{◌≡◌, length, Some, refl, arith, rules}
use Rattle.text.specs.Decimal.{decimal_at}
use Rattle.text.proofs.DecimalText.{found_text}
use Rattle.text.proofs.Numbers.{seven_fit}
use Rattle.text.proofs.decimal.read_decimal.Goals as goal

pub overflow_cast-result : goal.overflow_cast-result
overflow_cast-result c =
    let few = c.if-not-has_shape.ensures.bound refl in
    let fits = seven_fit c.in_ok-read_digits.field-0 (length c.args.text.now) c.in_ok-read_digits.ensures.bound few in
    omega arith

pub returns-clause-is_the_text_of_its_number : goal.returns-clause-is_the_text_of_its_number
returns-clause-is_the_text_of_its_number c =
    let read : Some c.in_ok-read_digits.field-0 ≡ decimal_at c.args.text.now = search rules in
    found_text c.args.text.now (Some c.in_ok-read_digits.field-0) read
