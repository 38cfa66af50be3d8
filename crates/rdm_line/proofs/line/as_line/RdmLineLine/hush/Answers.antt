use Rattle.std.proofs.Common.{ap, ◌∙◌, ap₂}
use Rattle.rdm_line.specs.Heard.{yes_heard}
use Rattle.rdm_line.specs.Means.{meaning_of}
use Rattle.rdm_line.specs.State.{state_of}
use Rattle.rdm_line.specs.Meanings.{hush_means}
use Rattle.rdm_line.proofs.Replies.{hush_heard}
use Rattle.rdm_line.proofs.States.{hushes}
use Rattle.rdm_line.proofs.line.as_line.RdmLineLine.hush.Goals as goal

pub returns : goal.returns
returns c =
    let line = c.args.self.now in
    let s = state_of line in
    let key = c.args.key in
    let table = c.ask.ensures.state ∙ hushes s key in
    record {
      answer = c.is_yes.ensures ∙ ap₂ yes_heard c.new-expected.ensures c.ask.ensures.signal ∙ hush_heard s line.no_key_twice key;
      after = ap meaning_of table ∙ hush_means s key;
      whole_line = table;
    }
