-- One question of a run, from what line, walk and book say of it.
use Rattle.std.proofs.Common.{◌≡◌, ℕ, suc, Bool, true, false, cond, ◌++◌, drop, Some, None, Option, sym, ap, ◌∙◌}
use Rattle.std.specs.Option.{option_map}
use Rattle.lines.specs.Meaning.{Meaning}
use Rattle.records.specs.Rows.{with_key}
use Rattle.walk_law.specs.Run.{Honest, to_probe, to_hush, question_ranks}
use Rattle.walk_law.specs.Walk.{Walk, asked}
use Rattle.walk_law.specs.declared.question.Answer.{Answer}
use Rattle.walk_law.specs.declared.question.Question.{Question}
use Rattle.walk_law.specs.declared.question.Question.TheVariants as question
use Rattle.discovery.specs.Books.{memory_of, rows_of, memory_if, BookAfter}
use Rattle.discovery.specs.Jobs.{Replies}
use Rattle.discovery.specs.declared.book.Book.{Book}
use Rattle.discovery.proofs.Rows.{memory_as_it_was}

-- What a line replies to the next question is honest.
pub honest_reply : {K : Type 0} (rank : K → ℕ) (m n : Meaning K) (w : Walk) (q : Question K) (a : Answer K)
    → Some (question_ranks rank q) ≡ asked w
    → Replies rank m q a n
    → Honest rank m w a n
honest_reply rank m n w (question.Probe range) a asks (p, is, probed, same) = to_probe range p (sym asks) probed is same
honest_reply rank m n w (question.Hush k) a asks (is, same) = to_hush k (sym asks) is same

-- What became of the book, by whether a key was listed.
module _ {K : Type 0} (rank : K → ℕ) (before after : Book K) where
  pub book_unlisted : (key : Option K) (listed : Bool) → BookAfter rank key listed before after → listed ≡ false
      → (memory_of after ≡ memory_of before) × (after.count ≡ before.count)
  book_unlisted key listed b old =
      (b.memory ∙ ap (λ t. memory_if rank key t before) old ∙ memory_as_it_was rank key before, b.count ∙ ap (λ t. cond t (suc before.count) before.count) old)

  pub book_listed : ((x y : K) → rank x ≡ rank y → x ≡ y) → (key : Option K) (listed : Bool) → BookAfter rank key listed before after → listed ≡ true
      → (k : K) → option_map rank key ≡ Some (rank k)
      → (memory_of after ≡ with_key rank k (rows_of before) ++ drop (suc before.count) (memory_of before)) × (after.count ≡ suc before.count)
  book_listed same None listed b new k is = cc
  book_listed same (Some j) listed b new k is =
      let rank_is : rank j ≡ rank k = cc in (
        b.memory ∙ ap (λ t. memory_if rank (Some j) t before) new ∙ ap (λ x. with_key rank x (rows_of before) ++ drop (suc before.count) (memory_of before)) (same j k rank_is),
        b.count ∙ ap (λ t. cond t (suc before.count) before.count) new,
      )
