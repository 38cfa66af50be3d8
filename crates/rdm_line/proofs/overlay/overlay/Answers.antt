use Rattle.std.proofs.Common.{◌∙◌, arith, rules, length-set}
use Rattle.rdm_line.proofs.Overlays.{overlaid_more, overlaid_all}
use Rattle.rdm_line.proofs.overlay.overlay.Goals as goal

pub loop-i-preserved : goal.loop-i-preserved
loop-i-preserved g c = (
  λ joined joins. overlaid_more joined c.loop-i.bytes c.args.a.now.bytes c.args.b.now.bytes c.loop-i.i _ (omega arith) (omega arith)
      (omega arith)
      (joins _ _ _ (search rules) (search rules) c.join.ensures)
      (c.loop-i.invariant.0 joined joins),
  length-set _ _ _ ∙ c.loop-i.invariant.1,
)

pub returns : goal.returns
returns g c joined joins =
    overlaid_all joined c.loop-i.bytes c.args.a.now.bytes c.args.b.now.bytes c.args.a.now.len c.args.b.now.len _ c.loop-i.i
    c.min-len.ensures
    (omega arith)
    (c.loop-i.invariant.0 joined joins)
