use Rattle.std.proofs.Common.{eqb, ◌∙◌, rules}
use Rattle.std.proofs.lemmas.Iterator.Consumers.{nth_from_yields_List}
use Rattle.std.proofs.lemmas.Iterator.Splits.{YieldsList-from_slice_split}
use Rattle.fields.proofs.Spaces.{field_is_part}
use Rattle.fields.proofs.field.Goals as goal

pub returns : goal.returns
returns c =
    nth_from_yields_List _ _ _ c.nth.ensures.ran
    (YieldsList-from_slice_split _ (λ x. eqb x 32) _ c.split.ensures.rest c.split.ensures.done c.split.ensures.closure (λ x b q called. search rules))
    ∙ search (rules, field_is_part c.args.n c.args.line.now)
