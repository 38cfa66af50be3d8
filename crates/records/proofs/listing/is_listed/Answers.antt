use Rattle.std.proofs.Common.{◌∙◌, eqb, rules, tests}
use Rattle.std.proofs.lemmas.Iterator.{YieldsList-from_slice}
use Rattle.std.proofs.lemmas.Iterator.Search.{any_from_yields_List}
use Rattle.records.proofs.Places.{in_rows}
use Rattle.records.proofs.listing.is_listed.Goals as goal

pub returns : goal.returns
returns g c =
    let rank = g.K.Family.rank in
    let rows = c.args.rows.now in
    any_from_yields_List (λ row. eqb (rank c.args.key) (rank row.key)) _ _ _ c.any.ensures.ran (YieldsList-from_slice rows cc) (λ x b q k. search (rules, tests))
    ∙ in_rows rank (rank c.args.key) rows
