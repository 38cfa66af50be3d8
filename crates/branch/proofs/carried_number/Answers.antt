use Rattle.std.proofs.Common.{◌≡◌, ◌+◌, ◌*◌, ◌/◌, ◌<◌, [], length, get_or, sym, ap, ap₂, ◌∙◌, arith, rules}
use lib.Bits.{bit_and, and_le_l}
use Rattle.branch.proofs.Pairs.{drop_pairs, carried_short, carried_step, carry_fits, in_chunk}
use Rattle.branch.proofs.carried_number.Goals as goal

pub overflow_mul-number : goal.overflow_mul-number
overflow_mul-number c = omega (arith, carry_fits c.loop-p.number c.loop-p.p-index 0 c.loop-p.invariant.0 (omega arith) (omega arith))

byte_fits : (c : goal.After-from) → c.from.result < 256
byte_fits c = search (rules, and_le_l)

pub overflow_add-number : goal.overflow_add-number
overflow_add-number c = omega (arith, carry_fits c.loop-p.number c.loop-p.p-index c.from.result c.loop-p.invariant.0 (omega arith) (byte_fits c))

pub loop-p-preserved : goal.loop-p-preserved
loop-p-preserved c =
    let n = c.loop-p.number in
    let i = c.loop-p.p-index in
    let xs = c.args.pairs.now in
    let within : i < length xs / 2 = omega arith in
    let first : get_or (get_or c.as_chunks.result.0.now i []) 0 0 ≡ get_or xs (2 * i) 0 =
    ap (λ ps. get_or (get_or ps i []) 0 0) c.as_chunks.ensures.front ∙ in_chunk _ xs i 0 within (omega arith) (omega arith) ∙ ap (λ k. get_or xs k 0) (omega arith) in
    let second : get_or (get_or c.as_chunks.result.0.now i []) 1 0 ≡ get_or xs (2 * i + 1) 0 =
    ap (λ ps. get_or (get_or ps i []) 1 0) c.as_chunks.ensures.front ∙ in_chunk _ xs i 1 within (omega arith) (omega arith) in
    let carried = c.from.ensures ∙ ap₂ bit_and first second in
    let next = carried_step xs i within n c.loop-p.invariant.1 in
    ((carry_fits n i c.from.result c.loop-p.invariant.0 (omega arith) (byte_fits c)).0, rw carried next)

pub returns : goal.returns
returns c =
    sym (carried_short c.loop-p.number _ (drop_pairs c.args.pairs.now c.loop-p.p-index (omega arith))) ∙ c.loop-p.invariant.1
