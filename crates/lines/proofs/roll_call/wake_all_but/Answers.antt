use Rattle.std.proofs.Common.{ap, ◌∙◌}
use Rattle.lines.specs.Meaning.{is_awake}
use Rattle.lines.specs.Rules.{hush_answer, hushed}
use Rattle.lines.proofs.Meanings.{answer_roused, awake_but_one}
use Rattle.lines.proofs.roll_call.wake_all_but.Goals as goal

pub returns : goal.returns
returns g c =
    let rank = g.L.Key.Family.rank in
    let same = g.met.L.Key.Family.same_rank_same_key in
    let key = c.args.key in
    let m = g.L.Line.means c.args.line.now in
    let after = c.hush.ensures.after ∙ ap (λ n. hushed rank n key) c.rouse.ensures in
    record {
      after = after;
      answer = c.hush.ensures.answer ∙ ap (λ n. hush_answer n key) c.rouse.ensures ∙ answer_roused rank same m key;
      every_other_fitted_key_is_awake = λ k. ap (λ n. is_awake n k) after ∙ awake_but_one rank same m key k;
    }
