use Rattle.std.proofs.Common.{arith}
use Rattle.text.proofs.Numbers.{digit_fits, digit_some}
use Rattle.text.proofs.read_digits.Goals as goal

pub overflow_mul-number : goal.overflow_mul-number
overflow_mul-number c =
    let fits = digit_fits _ _ _ _ _ (omega arith) c.loop-c.invariant.0 (omega arith) c.in_ok-digit.ensures in
    rw c.from.ensures (omega (arith, fits))

pub overflow_add-number : goal.overflow_add-number
overflow_add-number c =
    let fits = digit_fits _ _ _ _ _ (omega arith) c.loop-c.invariant.0 (omega arith) c.in_ok-digit.ensures in
    rw (c.from.ensures, c.from-in-loop-c.ensures) (omega (arith, fits))

pub loop-c-preserved : goal.loop-c-preserved
loop-c-preserved c =
    let fits = digit_fits _ _ _ _ _ (omega arith) c.loop-c.invariant.0 (omega arith) c.in_ok-digit.ensures in
    rw (c.from.ensures, c.from-in-loop-c.ensures)
    (fits.0, digit_some _ _ _ _ c.loop-c-test.true c.loop-c.invariant.1 c.in_ok-digit.digit c.in_ok-digit.ensures)
