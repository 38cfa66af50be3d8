use Rattle.std.proofs.Common.{sym, ◌∙◌}
use Rattle.std.proofs.lemmas.Bool.{ltb-true}
use Rattle.walk_law.specs.Run.{range_ranks}
use Rattle.discovery.specs.Books.{places_of}
use Rattle.discovery.proofs.Hearing.{probes_again, drops_it}
use Rattle.discovery.proofs.Rows.{free_place, ranks_listed}
use Rattle.discovery.proofs.walk.course.after_yes.Goals as goal

pub returns-else-is_one-clause-walk : goal.returns-else-is_one-clause-walk
returns-else-is_one-clause-walk g c =
    let rank = g.K.Family.rank in
    let book = c.args.book.now in
    let more = c.if-not-list.ensures in
    probes_again (places_of book) (rank c.args.key) (range_ranks rank c.args.range) _ _ (sym c.if-is_listed.ensures) (free_place rank book ∙ sym more.answer)
    (ranks_listed rank book c.args.key c.list.new.self (ltb-true _ _ (sym more.answer)) more.count more.memory)
    (sym c.if-is_one.ensures)

pub returns-then-is_one-clause-walk : goal.returns-then-is_one-clause-walk
returns-then-is_one-clause-walk g c =
    let rank = g.K.Family.rank in
    let book = c.args.book.now in
    let more = c.if-not-list.ensures in
    drops_it (places_of book) (rank c.args.key) (range_ranks rank c.args.range) _ _ (sym c.if-is_listed.ensures) (free_place rank book ∙ sym more.answer)
    (ranks_listed rank book c.args.key c.list.new.self (ltb-true _ _ (sym more.answer)) more.count more.memory)
    (sym c.if-is_one.ensures)
