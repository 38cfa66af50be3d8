use Rattle.std.proofs.Common.{suc, cond, ◌++◌, length, take, drop, length-take-le, sym, ap, ◌∙◌, arith}
use Rattle.std.proofs.lemmas.Bool.{lt-ltb}
use Rattle.std.specs.List.{insert}
use Rattle.records.specs.Rows.{new_record, place_of, with_key}
use Rattle.records.proofs.Places.{rotated_in}
use Rattle.records.proofs.listing.list.Goals as goal

pub returns : goal.returns
unfolding with_key
returns g c =
    let rank = g.K.Family.rank in
    let key = c.args.key in
    let memory = c.args.memory.now in
    let count = c.args.count in
    let room = lt-ltb count (length memory) (omega arith) in
    let at = c.place-at.result in
    let put = rotated_in memory count at c.new.result (omega arith) (omega (arith, length-take-le count memory)) c.rotate_right.new.self c.rotate_right.ensures.after in
    let front = take count memory in
    record {
      answer = sym room;
      after =
          put
          ∙ ap (λ x. insert front at x ++ drop (suc count) memory) c.new.ensures
          ∙ ap (λ i. insert front i (new_record key) ++ drop (suc count) memory) c.place-at.ensures.value
          ∙ sym (ap (λ t. cond t (insert front (place_of rank (rank key) front) (new_record key) ++ drop (suc count) memory) memory) room);
    }
