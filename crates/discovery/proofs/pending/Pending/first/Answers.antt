use Rattle.std.proofs.Common.{ap, ◌∙◌, arith}
use Rattle.std.specs.Option.{option_map}
use Rattle.walk_law.specs.Run.{range_ranks}
use Rattle.discovery.proofs.Stacks.{stacked_first}
use Rattle.discovery.proofs.pending.Pending.first.Goals as goal

pub returns : goal.returns
returns g c =
    let p = c.args.self.now in
    let size = p.size in
    let deep = p.deep in
    ap (option_map (range_ranks g.K.Family.rank)) (c.copied.ensures ∙ c.last.ensures.value) ∙ stacked_first g.K.Family.rank p.ranges p.depth (omega arith)
