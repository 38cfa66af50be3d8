use Rattle.rdm_line.proofs.Tables.{still_distinct, still_sound, muted_live}
use Rattle.rdm_line.proofs.line.RdmLine.ask.Goals as goal

pub invariant_of-self : goal.invariant_of-self
invariant_of-self c =
    let line = c.args.self.now in
    let q = c.args.question in
    let table = c.ask.ensures.table in
    record {
      count_in_bounds = line.count_in_bounds;
      no_key_twice = still_distinct q line.fixtures _ line.count table line.no_key_twice;
      fixtures_sound = still_sound q line.fixtures _ line.count table line.fixtures_sound;
      muted_while_shut = muted_live line.live _ c.if-not-self.false;
    }
