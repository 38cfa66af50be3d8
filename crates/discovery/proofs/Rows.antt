-- The rows of a book as a part of its memory.
use Rattle.std.proofs.Common.{◌≡◌, ℕ, suc, ◌<◌, Bool, false, cond, ltb, length, take, drop, Some, None, Option, sym, refl, ap, ◌∙◌, arith}
use Rattle.std.proofs.lemmas.List.{take_at, length-map, length-take-le}
use Rattle.records.specs.Rows.{row_ranks, with_key}
use Rattle.records.proofs.Places.{length-with_key, ranks_with_key}
use Rattle.walk_law.specs.Ranks.{put_in}
use Rattle.discovery.specs.Books.{memory_of, rows_of, places_of, memory_with, memory_if, BookAfter}
use Rattle.discovery.specs.declared.book.Book.{Book}

module _ {K : Type 0} (rank : K → ℕ) (b : Book K) where
  long_rows : length (row_ranks rank (rows_of b)) ≡ b.count
  long_rows = length-map (rows_of b) (λ row. rank row.key) ∙ length-take-le b.count (memory_of b) b.within

  -- There is a place for one more exactly if there are fewer rows than places.
  pub free_place : ltb (length (row_ranks rank (rows_of b))) (places_of b) ≡ ltb b.count (places_of b)
  free_place = ap (λ n. ltb n (places_of b)) long_rows

  -- The rows after a key was listed.
  module _ (key : K) (after : Book K) (free : b.count < places_of b) (counted : after.count ≡ suc b.count) (written : memory_of after ≡ memory_with rank key b) where
    pub rows_listed : rows_of after ≡ with_key rank key (rows_of b)
    rows_listed =
        let size = length-take-le b.count (memory_of b) (omega arith) in
        let long : length (with_key rank key (rows_of b)) ≡ suc b.count = length-with_key rank key (rows_of b) ∙ ap suc size in
        ap (λ n. take n (memory_of after)) counted
        ∙ ap (take (suc b.count)) written
        ∙ take_at (with_key rank key (rows_of b)) (drop (suc b.count) (memory_of b)) (suc b.count) long

    pub ranks_listed : row_ranks rank (rows_of after) ≡ put_in (rank key) (row_ranks rank (rows_of b))
    ranks_listed = ap (row_ranks rank) rows_listed ∙ ranks_with_key rank key (rows_of b)

-- Nothing was listed, so the memory is as it was.
pub memory_as_it_was : {K : Type 0} (rank : K → ℕ) (key : Option K) (book : Book K) → memory_if rank key false book ≡ memory_of book
memory_as_it_was rank None book = refl
memory_as_it_was rank (Some k) book = refl

pub book_untouched : {K : Type 0} (rank : K → ℕ) (key : Option K) (book : Book K) (listed : Bool) → listed ≡ false → BookAfter rank key listed book book
book_untouched rank key book listed old = record {
  count = sym (ap (λ t. cond t (suc book.count) book.count) old);
  memory = sym (ap (λ t. memory_if rank key t book) old ∙ memory_as_it_was rank key book);
}
