use Rattle.std.proofs.Common.{◌≡◌, Err, sym, refl, ap, ◌∙◌, subst, arith}
use Rattle.std.proofs.lemmas.Result.{err_from_is_err_and}
use Rattle.walk_law.specs.Run.{answer_ranks}
use Rattle.walk_law.specs.Walk.{Walk, refusal_of, told}
use Rattle.discovery.specs.Books.{rows_of, places_of, BookAfter}
use Rattle.discovery.specs.Walks.{walk_of}
use Rattle.walk_law.proofs.Listing.{Laws}
use Rattle.walk_law.proofs.WholeRuns.{leads_on_by}
use Rattle.discovery.proofs.FamilyLaws.{laws_from}
use Rattle.discovery.proofs.Hearing.{refused_walk, refused_told, refused_lists, unrefused_walk, unrefused_told, unrefused_lists}
use Rattle.discovery.proofs.Refused.{is_refused, is_free}
use Rattle.discovery.proofs.Rows.{book_untouched}
use Rattle.discovery.proofs.walk.Walk.hear.Given as given
use Rattle.discovery.proofs.walk.Walk.hear.Goals as goal

laws : (g : given.Over) → Laws g.K.Family.rank g.K.Family.levels g.K.Family.top
laws g =
    let met = g.met.K.Family in
    laws_from met.same_rank_same_key met.no_rank_above_top met.every_rank_up_to_top met.top_below_power met.levels_in_bounds

pub returns-in_err-check : goal.returns-in_err-check
returns-in_err-check g c =
    let rank = g.K.Family.rank in
    let w = c.args.self.now in
    let book = c.args.book.now in
    let walk = walk_of rank w (rows_of book) in
    let answer = answer_ranks rank c.args.answer in
    let refusal = c.in_err-check.field-0.0 in
    let is = is_refused (refusal_of walk answer) refusal (sym c.in_err-check.was ∙ c.check.ensures) in
    let p = err_from_is_err_and c.from_residual.result c.from_residual.ensures.1 in
    let returned : c.from_residual.result ≡ Err refusal = rw (p.1, p.2) refl in
    let told_is = returned ∙ sym (refused_told (places_of book) walk answer refusal is) in
    let walk_is = sym (refused_walk (places_of book) walk answer refusal is) in
    record {
      answer = told_is;
      walk = walk_is;
      honest_answers_lead_on = λ m n reached honest.
          leads_on_by rank g.K.Family.levels g.K.Family.top (places_of book) (laws g) (omega arith) m n walk c.args.answer walk _ walk_is told_is reached honest;
      book = book_untouched rank w.hushing book _ (refused_lists (places_of book) walk answer refusal is);
    }

pub returns : goal.returns
returns g c =
    let rank = g.K.Family.rank in
    let w = c.args.self.now in
    let book = c.args.book.now in
    let walk = walk_of rank w (rows_of book) in
    let answer = answer_ranks rank c.args.answer in
    let is = is_free (refusal_of walk answer) (sym c.in_ok-check.was ∙ c.check.ensures) in
    let done = c.hear_answer.ensures.walk ∙ sym (unrefused_walk (places_of book) walk answer is) in
    let told_is = c.told.ensures ∙ ap (λ (v : Walk). told v.phase) done ∙ sym (unrefused_told (places_of book) walk answer is) in
    record {
      answer = told_is;
      walk = done;
      honest_answers_lead_on = λ m n reached honest.
          leads_on_by rank g.K.Family.levels g.K.Family.top (places_of book) (laws g) (omega arith) m n walk c.args.answer _ _ done told_is reached honest;
      book = subst (λ t. BookAfter rank w.hushing t book c.hear_answer.new.book) (sym (unrefused_lists (places_of book) walk answer is)) c.hear_answer.ensures.book;
    }
