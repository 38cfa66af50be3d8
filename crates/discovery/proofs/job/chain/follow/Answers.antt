use Rattle.std.proofs.Common.{rules}
use Rattle.walk_law.proofs.Listing.{Laws}
use Rattle.job_law.specs.declared.call.Call.TheVariants.{Open}
use Rattle.discovery.specs.Books.{memory_of}
use Rattle.discovery.specs.Jobs.{scene_of}
use Rattle.discovery.proofs.Chaining.{leads_from_open, one_more, all_made}
use Rattle.discovery.proofs.FamilyLaws.{laws_from}
use Rattle.discovery.proofs.job.chain.follow.Given as given
use Rattle.discovery.proofs.job.chain.follow.Goals as goal

laws : (g : given.Over) → Laws g.L.Key.Family.rank g.L.Key.Family.levels g.L.Key.Family.top
laws g =
    let met = g.met.L.Key.Family in
    laws_from met.same_rank_same_key met.no_rank_above_top met.every_rank_up_to_top met.top_below_power met.levels_in_bounds

pub loop-call-preserved : goal.loop-call-preserved
loop-call-preserved g c line memory leads =
    one_more g.L.Key.Family.rank g.L.Key.Family.levels g.L.Key.Family.top g.L.Key.Family.first g.L.Key.Family.count line memory c.args.calls.now
    (g.L.Line.means c.loop-call.line) (g.L.Line.means c.then-newest.new.line) c.loop-call.book c.then-newest.new.book c.loop-call.newest c.then-newest.result c.loop-call.call-index Open c.loop-call-test.true
    c.then-newest.ensures.makes_the_call c.then-newest.ensures.or_changes_nothing c.then-newest.ensures.every_chain_goes_on_as_promised
    (c.loop-call.invariant line memory leads)

pub returns : goal.returns
returns g c =
    let line = g.L.Line.means c.args.line.now in
    let memory = memory_of c.args.book.now in
    let leads =
    leads_from_open g.L.Key.Family.rank g.L.Key.Family.levels g.L.Key.Family.top g.L.Key.Family.first g.L.Key.Family.count (laws g) line memory
    (scene_of g.L.Key.Family.rank (g.L.Line.means c.open.new.line) c.open.new.book c.open.result) c.open.ensures in
    record {
      leads_here_as_promised =
          all_made g.L.Key.Family.rank g.L.Key.Family.levels g.L.Key.Family.top g.L.Key.Family.first g.L.Key.Family.count line memory c.args.calls.now
          (g.L.Line.means c.loop-call.line) c.loop-call.book c.loop-call.newest c.loop-call.call-index (search rules)
          (c.loop-call.invariant line memory leads);
    }
