use Rattle.std.proofs.Common.{take, ◌∙◌}
use Rattle.discovery.specs.Books.{memory_of}
use Rattle.discovery.specs.Walks.{walk_of}
use Rattle.discovery.proofs.job.Job.open.Goals as goal

pub returns : goal.returns
returns g c =
    let book = c.clear.new.self in
    record {
      line_roused = c.rouse.ensures;
      line_sound = g.met.L.Line.sound c.rouse.new.self;
      memory_kept = c.clear.ensures.memory;
      book_empty = c.clear.ensures.empty;
      walk_begun = (λ i. walk_of g.K.Family.rank c.begin.result (take (c.clear.ensures.empty i) (memory_of book))) ∙ c.begin.ensures;
    }
