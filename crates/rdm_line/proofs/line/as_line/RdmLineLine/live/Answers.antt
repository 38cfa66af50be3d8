use Rattle.rdm_line.specs.State.{state_of}
use Rattle.rdm_line.specs.Meanings.{live_meaning}
use Rattle.rdm_line.proofs.line.as_line.RdmLineLine.live.Goals as goal

pub returns : goal.returns
returns c = live_meaning (state_of c.args.self.now)
