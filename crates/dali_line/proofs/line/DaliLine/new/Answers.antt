use Rattle.std.proofs.Common.{false, sym, ◌∙◌, arith, rules}
use Rattle.dali_line.proofs.Makings.{fitted_from, fitted_distinct, fitted_length, fitted_shut, fitted_means}
use Rattle.dali_line.proofs.line.DaliLine.new.Goals as goal

pub invariant_of-result : goal.invariant_of-result
invariant_of-result c =
    let fitted = fitted_from c.args.keys.now c.in_ok-units.units c.fit.result c.fit.ensures (search rules) in
    record { within = omega (arith, fitted_length c.args.keys.now c.in_ok-units.units.items fitted) }

pub invariant_of-result-2 : goal.invariant_of-result-2
invariant_of-result-2 c =
    let fitted = fitted_from c.args.keys.now c.in_ok-units.units c.fit.result c.fit.ensures (search rules) in
    record {
      distinct = fitted_distinct c.args.keys.now c.in_ok-units.units.items fitted (sym c.has_twice.ensures ∙ c.if-has_twice.false);
      states = fitted_shut c.args.keys.now c.in_ok-units.units.items fitted;
    }

pub returns-clause-means : goal.returns-clause-means
returns-clause-means c =
    let fitted = fitted_from c.args.keys.now c.in_ok-units.units c.fit.result c.fit.ensures (search rules) in
    λ i. record { live = false; at = λ k. fitted_means c.args.keys.now c.in_ok-units.units.items fitted k i }
