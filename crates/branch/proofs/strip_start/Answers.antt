use Rattle.std.proofs.lemmas.Slice.Eq.{strip_prefix_is}
use Rattle.branch.proofs.Leads.{stripped}
use Rattle.branch.proofs.strip_start.Goals as goal
use Rattle.std.proofs.lemmas.Bool.Decides.{Decides-eqb}

pub returns : goal.returns
returns c =
    let bytes = c.args.bytes.now in
    let start = c.args.start.now in
    let r = c.strip_prefix.result in
    stripped bytes start r (strip_prefix_is Decides-eqb bytes start r c.strip_prefix.ensures.cases)
