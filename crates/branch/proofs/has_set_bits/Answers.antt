use Rattle.std.proofs.Common.{ap, ◌∙◌, refl, sym, ap₂, arith, rules, [], ◌&&◌}
use Rattle.std.specs.List.{list_all}
use Rattle.std.proofs.lemmas.List.{take_all}
use Rattle.std.proofs.lemmas.List.Folds.{list_all_at, list_all_more}
use Rattle.branch.proofs.Pairs.{pair_is_set, set_in_chunks}
use Rattle.branch.proofs.has_set_bits.Goals as goal

pub returns-then-not-is_pair : goal.returns-then-not-is_pair
returns-then-not-is_pair c =
    let lacks = list_all_at pair_is_set c.as_chunks.result.0.now c.loop-p.p-index [] (omega arith) (search rules) in
    sym lacks ∙ ap (list_all pair_is_set) c.as_chunks.ensures.front ∙ set_in_chunks _ c.args.pairs.now refl

pub loop-p-preserved : goal.loop-p-preserved
loop-p-preserved c =
    list_all_more pair_is_set c.as_chunks.result.0.now c.loop-p.p-index [] c.loop-p-test.true
    ∙ ap₂ ◌&&◌ c.loop-p.invariant (sym c.is_pair.ensures ∙ c.if-not-is_pair.false)

pub returns : goal.returns
returns c =
    sym c.loop-p.invariant
    ∙ ap (list_all pair_is_set) (take_all c.loop-p.p-index c.as_chunks.result.0.now (omega arith))
    ∙ ap (list_all pair_is_set) c.as_chunks.ensures.front
    ∙ set_in_chunks _ c.args.pairs.now refl
