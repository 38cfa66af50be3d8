use Rattle.std.proofs.Common.{◌∷◌, sym, refl, ap, ◌∙◌, inl, inr, ⊎_elim, arith}
use Rattle.walk_law.specs.Run.{range_ranks}
use Rattle.discovery.proofs.Stacks.{stacked_halves, stacked_rest, memory_left, no_memory_left}
use Rattle.discovery.proofs.pending.Pending.replace_first.Goals as goal

pub returns-then-depth-eq0 : goal.returns-then-depth-eq0
returns-then-depth-eq0 g c =
    let p = c.args.self.now in
    let size = p.size in
    record {
      answer =
          sym (no_memory_left g.K.Family.rank p.ranges p.depth size p.deep
          (⊎_elim (λ none. inl none) (λ full. inr full.1) c.then-depth-eq0.either));
      after = refl;
    }

pub returns : goal.returns
returns g c =
    let p = c.args.self.now in
    let rank = g.K.Family.rank in
    let size = p.size in
    let deep = p.deep in
    let lower = c.args.lower in
    let upper = c.args.upper in
    record {
      answer = sym (memory_left rank p.ranges p.depth size deep (omega arith) (omega arith));
      after =
          stacked_halves rank p.ranges p.depth (omega arith) (omega arith) lower upper (omega arith)
          ∙ ap (λ l. range_ranks rank lower ∷ range_ranks rank upper ∷ l) (sym (stacked_rest rank p.ranges p.depth size deep));
    }
