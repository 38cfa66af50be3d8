use Rattle.std.proofs.Common.{rules}
use Rattle.std.proofs.lemmas.List.Edits.{map_over_more}
use Rattle.rdm_line.specs.Sending.{after}
use Rattle.rdm_line.proofs.Gathering.{gathered_more}
use Rattle.rdm_line.proofs.sending.send.Goals as goal

pub loop-fixture-preserved : goal.loop-fixture-preserved
loop-fixture-preserved c =
    let frame = c.args.frame.now in
    let turn = c.loop-fixture in (
      search (rules, map_over_more (after frame)),
      gathered_more c.args.mode frame (after frame) c.args.fixtures.now _ turn.fixtures turn.fixture-index c.fixture-item.result _ _ _ (search rules)
          turn.invariant.0 c.fixture-item.is c.speak_to.ensures.signal c.join-cable.ensures turn.invariant.1,
    )
