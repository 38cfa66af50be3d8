use Rattle.std.proofs.Common.{sym}
use Rattle.walk_law.proofs.Listing.{Laws}
use Rattle.job_law.specs.Chain.{opens}
use Rattle.discovery.proofs.Chaining.{goes_on, open_alone}
use Rattle.discovery.proofs.FamilyLaws.{laws_from}
use Rattle.discovery.proofs.job.chain.NewestJob.then.Given as given
use Rattle.discovery.proofs.job.chain.NewestJob.then.Goals as goal

laws : (g : given.Over) → Laws g.K.Family.rank g.K.Family.levels g.K.Family.top
laws g =
    let met = g.met.K.Family in
    laws_from met.same_rank_same_key met.no_rank_above_top met.every_rank_up_to_top met.top_below_power met.levels_in_bounds

pub returns-in-Open-clause-every_chain_goes_on_as_promised : goal.returns-in-Open-clause-every_chain_goes_on_as_promised
returns-in-Open-clause-every_chain_goes_on_as_promised g c =
    rw c.in-Open.is
    (λ made. goes_on g.K.Family.rank g.K.Family.levels g.K.Family.top g.K.Family.first g.K.Family.count (laws g) _ c.args.call _ c.call_job.ensures)

pub returns-in-Closed-clause-makes_the_call : goal.returns-in-Closed-clause-makes_the_call
returns-in-Closed-clause-makes_the_call g c =
    let is = open_alone c.args.call (sym c.if-is_open.ensures) in
    rw (is, c.in-Closed.is) (λ made. opens c.open.ensures)

pub returns-in-Closed-clause-every_chain_goes_on_as_promised : goal.returns-in-Closed-clause-every_chain_goes_on_as_promised
returns-in-Closed-clause-every_chain_goes_on_as_promised g c =
    let is = open_alone c.args.call (sym c.if-is_open.ensures) in
    rw (is, c.in-Closed.is)
    (λ made. goes_on g.K.Family.rank g.K.Family.levels g.K.Family.top g.K.Family.first g.K.Family.count (laws g) _ _ _ (opens c.open.ensures))
