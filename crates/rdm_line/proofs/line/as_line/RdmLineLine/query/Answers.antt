use Rattle.std.proofs.Common.{ap, ◌∙◌, ap₂}
use Rattle.rdm_line.specs.Heard.{footprint_heard}
use Rattle.rdm_line.specs.Means.{meaning_of}
use Rattle.rdm_line.specs.State.{state_of}
use Rattle.rdm_line.proofs.Replies.{query_heard}
use Rattle.rdm_line.proofs.States.{queries}
use Rattle.rdm_line.proofs.line.as_line.RdmLineLine.query.Goals as goal

pub returns : goal.returns
returns c =
    let line = c.args.self.now in
    let s = state_of line in
    let key = c.args.key in
    let table = c.ask.ensures.state ∙ queries s key in
    record {
      same = ap meaning_of table;
      answer =
          c.footprint.ensures
          ∙ ap₂ footprint_heard c.new-expected.ensures c.ask.ensures.signal
          ∙ query_heard s line.no_key_twice line.fixtures_sound key;
      whole_line = table;
    }
