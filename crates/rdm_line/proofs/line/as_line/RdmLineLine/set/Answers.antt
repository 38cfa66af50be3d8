use Rattle.std.proofs.Common.{ap, ◌∙◌, ap₂}
use Rattle.rdm_line.specs.Heard.{yes_heard}
use Rattle.rdm_line.specs.Means.{meaning_of}
use Rattle.rdm_line.specs.State.{state_of}
use Rattle.rdm_line.specs.Meanings.{set_means}
use Rattle.rdm_line.proofs.Replies.{set_heard}
use Rattle.rdm_line.proofs.States.{sets}
use Rattle.rdm_line.proofs.line.as_line.RdmLineLine.set.Goals as goal

pub returns : goal.returns
returns c =
    let line = c.args.self.now in
    let s = state_of line in
    let key = c.args.key in
    let a = c.args.address in
    let table = c.ask.ensures.state ∙ sets s key a in
    record {
      answer = c.is_yes.ensures ∙ ap₂ yes_heard c.new-expected.ensures c.ask.ensures.signal ∙ set_heard key a s line.no_key_twice;
      after = ap meaning_of table ∙ set_means s key a;
      whole_line = table;
    }
