use Rattle.std.proofs.Common.{ap, ◌∙◌}
use Rattle.rdm_line.specs.Heard.{branch_heard}
use Rattle.rdm_line.specs.Means.{meaning_of}
use Rattle.rdm_line.specs.State.{state_of}
use Rattle.rdm_line.specs.Meanings.{means_sound}
use Rattle.rdm_line.proofs.Probes.{probe_heard}
use Rattle.rdm_line.proofs.Silence.{probed}
use Rattle.rdm_line.proofs.States.{probes}
use Rattle.rdm_line.proofs.line.as_line.RdmLineLine.probe.Goals as goal

pub returns : goal.returns
returns c =
    let line = c.args.self.now in
    let s = state_of line in
    let range = c.args.range in
    let table = c.ask.ensures.state ∙ probes s range in
    let exactly = c.branch_answer.ensures ∙ ap branch_heard c.ask.ensures.signal ∙ probe_heard s range in
    record {
      same = ap meaning_of table;
      answer = probed s range line.no_key_twice (means_sound s line.fixtures_sound line.muted_while_shut) c.branch_answer.result exactly;
      whole_line = table;
      exactly = exactly;
    }
