-- What a book holds.
use Rattle.std.specs.Prelude.{◌≡◌, ℕ, suc, min, Bool, true, false, cond, List, ◌++◌, length, take, drop, Some, None, Option}
use Rattle.records.specs.Rows.{with_key}
use Rattle.records.specs.declared.record.Record.{Record}
use Rattle.discovery.specs.declared.book.Book.{Book}

-- All of the memory that it was lent.
abbrev pub memory_of : {K : Type 0} → Book K → List (Record K)
memory_of b = b.records.now

-- Its rows.
abbrev pub rows_of : {K : Type 0} → Book K → List (Record K)
rows_of b = take b.count (memory_of b)

-- How many rows it can have: the first 65,536 records of the memory.
abbrev pub places_of : {K : Type 0} → Book K → ℕ
places_of b = min (length (memory_of b)) 65536

-- The memory with one key more listed: the rows behind it have moved up by one, and no other record is written.
abbrev pub memory_with : {K : Type 0} → (K → ℕ) → K → Book K → List (Record K)
memory_with rank key b = with_key rank key (rows_of b) ++ drop (suc b.count) (memory_of b)

abbrev pub memory_if : {K : Type 0} → (K → ℕ) → Option K → Bool → Book K → List (Record K)
memory_if rank (Some key) true b = memory_with rank key b
memory_if rank (Some key) false b = memory_of b
memory_if rank None true b = memory_of b
memory_if rank None false b = memory_of b

-- The book with one key more, or as it was.
pub record BookAfter {K : Type 0} (rank : K → ℕ) (key : Option K) (listed : Bool) (before after : Book K) : Type 0 where
  pub count : after.count ≡ cond listed (suc before.count) before.count
  pub memory : memory_of after ≡ memory_if rank key listed before
