use Rattle.std.proofs.Common.{refl, sym, ap, ◌∙◌}
use Rattle.std.proofs.lemmas.Bool.{both_ways}
use Rattle.keys.specs.RandomAddress.{random_number}
use Rattle.dali.proofs.Frames.{same_short}
use Rattle.dali_line.specs.Calls.{changed}
use Rattle.dali_line.specs.Controller.{addressed_at}
use Rattle.dali_line.specs.Meanings.{means_addressed, means_not_addressed, one_told_is, short_in_family, set_answer_is}
use Rattle.dali_line.proofs.Standing.{stands_addressed}
use Rattle.dali_line.proofs.line.calls.DaliLineLine.set.Goals as goal

pub invariant_of-self : goal.invariant_of-self
invariant_of-self c =
    let (distinct, states) = stands_addressed c.args.self.now _ (random_number c.args.key) c.in-Ok.short c.program.ensures.after.units_then in
    record { distinct = distinct; states = states }

pub returns-in-Ok : goal.returns-in-Ok
returns-in-Ok c =
    let line = c.args.self.now in
    let key = c.args.key in
    let a = c.in-Ok.short in
    let slot = c.in-Ok.ensures.0 in
    let wire = c.program.ensures.after in
    record {
      answer = c.program.ensures.answer ∙ one_told_is line key ∙ sym (set_answer_is key c.args.address line a slot);
      after = means_addressed key c.args.address line _ a slot wire.units_then;
      table_and_bus_after = record {
        sent = λ b same. record {
          wire_then = record { units_then = wire.units_then ∙ ap (λ s. changed (addressed_at (random_number key) s) line) (same_short a b (slot ∙ sym same)); bus_then = wire.bus_then };
          live_then = refl;
        };
        not_sent = λ outside. absurd (both_ways _ outside (short_in_family a c.args.address slot));
      };
    }

pub returns-in-Err-clause-after : goal.returns-in-Err-clause-after
returns-in-Err-clause-after c = means_not_addressed c.args.key c.args.address c.args.self.now c.in-Err.ensures.0
