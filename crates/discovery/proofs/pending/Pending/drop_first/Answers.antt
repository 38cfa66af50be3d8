use Rattle.std.proofs.Common.{sym, ap, ◌∙◌}
use Rattle.discovery.specs.Pending.{stacked}
use Rattle.discovery.proofs.Stacks.{stacked_rest}
use Rattle.discovery.proofs.pending.Pending.drop_first.Goals as goal

pub returns : goal.returns
returns g c =
    let p = c.args.self.now in
    ap (λ n. stacked g.K.Family.rank n p.ranges) c.saturating_sub-self.ensures ∙ sym (stacked_rest g.K.Family.rank p.ranges p.depth p.size p.deep)
