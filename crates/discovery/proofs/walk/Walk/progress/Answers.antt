use Rattle.std.proofs.Common.{arith}
use Rattle.walk_law.proofs.WholeRuns.{in_bounds, finds_every_fixture}
use Rattle.discovery.specs.Books.{rows_of, places_of}
use Rattle.discovery.specs.Walks.{walk_of}
use Rattle.discovery.proofs.FamilyLaws.{laws_from}
use Rattle.discovery.proofs.walk.Walk.progress.Goals as goal

pub returns-clause-keeps_in_bounds : goal.returns-clause-keeps_in_bounds
returns-clause-keeps_in_bounds g c =
    let f = g.K.Family in
    let met = g.met.K.Family in
    let book = c.args.book.now in
    λ answered. in_bounds f.levels f.top (places_of book) met.levels_in_bounds.1 met.top_below_power (walk_of f.rank c.args.self.now (rows_of book)) answered

pub returns-clause-finds_every_fixture : goal.returns-clause-finds_every_fixture
returns-clause-finds_every_fixture g c =
    let f = g.K.Family in
    let met = g.met.K.Family in
    let book = c.args.book.now in
    let laws = laws_from met.same_rank_same_key met.no_rank_above_top met.every_rank_up_to_top met.top_below_power met.levels_in_bounds in
    λ m reached. finds_every_fixture f.rank f.levels f.top (places_of book) laws (omega arith) m (walk_of f.rank c.args.self.now (rows_of book)) reached
