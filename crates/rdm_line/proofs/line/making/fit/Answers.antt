use Rattle.std.proofs.Common.{◌≡◌, rules, arith, refl}
use Rattle.std.proofs.lemmas.Grind.{common_steps}
use Rattle.rdm_line.proofs.Fitting.{all_empty, still_empty}
use Rattle.rdm_line.proofs.line.making.fit.Goals as goal

pub loop-i-init : goal.loop-i-init
loop-i-init c =
    let none : c.into_iter-i-iterator.result.count ≡ 0 = search rules in
    (rw none (search rules), rw none (all_empty _ refl), search rules, search rules)

pub loop-i-preserved : goal.loop-i-preserved
loop-i-preserved c = grind (arith, common_steps, still_empty)
