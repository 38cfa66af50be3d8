use Rattle.std.proofs.Common.{◌≡◌, ◌++◌, get_or, take, set, sym, ap, ◌∙◌}
use Rattle.std.specs.Option.{option_to_list}
use Rattle.std.proofs.lemmas.List.Edits.{map_over_more}
use Rattle.units.specs.Received.{received, replies}
use Rattle.units.specs.Unit.{unit_after, unit_reply}
use Rattle.units.proofs.Loops.{not_changed_yet, gathered_more}
use Rattle.units.proofs.send.send.Goals as goal

pub loop-unit-preserved : goal.loop-unit-preserved
loop-unit-preserved c frame same =
    let units = c.args.units.now in
    let bus = c.args.bus.now in
    let i = c.loop-unit.unit-index in
    let unit = c.unit-item.result in
    let within = c.loop-unit-test.true in
    let (changed, heard) = c.loop-unit.invariant frame same in
    let read : unit ≡ get_or units i unit =
    not_changed_yet (unit_after bus frame) units c.loop-unit.units i unit within changed c.unit-item.is in
    let after : c.hear.new.self ≡ unit_after bus frame unit =
    c.hear.ensures.after frame same ∙ ap (unit_after bus frame) (sym c.unit-item.is) in
    let reply : c.hear.result ≡ unit_reply bus frame unit =
    c.hear.ensures.answer frame same ∙ ap (unit_reply bus frame) (sym c.unit-item.is) in (
      ap (set c.loop-unit.units i) after
          ∙ map_over_more (unit_after bus frame) units c.loop-unit.units i unit within changed c.unit-item.is,
      c.with-received.ensures (replies bus frame (take i units)) heard
          ∙ ap (λ reply. received (replies bus frame (take i units) ++ option_to_list reply)) reply
          ∙ ap received (gathered_more (λ u. option_to_list (unit_reply bus frame u)) units i unit within read),
    )
