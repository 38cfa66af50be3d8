use Rattle.std.proofs.Common.{true, take, refl, ap, ◌∙◌}
use Rattle.rdm_line.specs.Means.{meaning_of}
use Rattle.rdm_line.specs.State.{state_of}
use Rattle.rdm_line.specs.Meanings.{rouse_means}
use Rattle.rdm_line.proofs.States.{rouses}
use Rattle.rdm_line.proofs.Tables.{muted_live}
use Rattle.rdm_line.proofs.line.as_line.RdmLineLine.rouse.Goals as goal

pub invariant_of-self : goal.invariant_of-self
invariant_of-self c =
    let line = c.args.self.now in
    record {
      count_in_bounds = line.count_in_bounds;
      no_key_twice = line.no_key_twice;
      fixtures_sound = line.fixtures_sound;
      muted_while_shut = muted_live true (take line.count line.fixtures) refl;
    }

pub returns : goal.returns
returns c =
    let line = c.args.self.now in
    let table = c.ask.ensures.state ∙ rouses (state_of line) in
    record { after = ap meaning_of table ∙ rouse_means (state_of line); whole_line = table }
