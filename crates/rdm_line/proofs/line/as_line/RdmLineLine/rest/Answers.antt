use Rattle.std.proofs.Common.{false, ap, ◌∙◌}
use Rattle.rdm_line.specs.Means.{meaning_of}
use Rattle.rdm_line.specs.State.{state_of, fitted, with_live}
use Rattle.rdm_line.specs.Table.{muted_unless}
use Rattle.rdm_line.specs.Meanings.{rest_means}
use Rattle.rdm_line.proofs.States.{rests, rests_muted}
use Rattle.rdm_line.proofs.line.as_line.RdmLineLine.rest.Goals as goal

pub invariant_of-self : goal.invariant_of-self
invariant_of-self c =
    let line = c.args.self.now in
    let asked = c.ask.new.self in
    let muted = ap (λ s. muted_unless false (fitted s)) c.ask.ensures.state ∙ rests_muted (state_of line) line.muted_while_shut in
    record {
      count_in_bounds = asked.count_in_bounds;
      no_key_twice = asked.no_key_twice;
      fixtures_sound = asked.fixtures_sound;
      muted_while_shut = muted;
    }

pub returns : goal.returns
returns c =
    let line = c.args.self.now in
    let table = ap (with_live false) c.ask.ensures.state ∙ rests (state_of line) in
    record { after = ap meaning_of table ∙ rest_means (state_of line) line.muted_while_shut; whole_line = table }
