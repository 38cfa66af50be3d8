-- The rows of a book.
use Rattle.std.specs.Prelude.{ℕ, List, map, None, nat_lt}
use Rattle.std.specs.List.{prefix_len, insert}
use Rattle.records.specs.declared.record.Record.{Record}

-- A key that was just found: of width 0, and without an address.
abbrev pub new_record : {K : Type 0} → K → Record K
new_record key = record { key = key; width = 0; address = None }

-- The keys of the rows, by rank.
abbrev pub row_ranks : {K : Type 0} → (K → ℕ) → List (Record K) → List ℕ
row_ranks rank rows = map (λ row. rank row.key) rows

-- Where a rank belongs: before the first row whose key is not below it.
abbrev pub place_of : {K : Type 0} → (K → ℕ) → ℕ → List (Record K) → ℕ
place_of rank j rows = prefix_len (λ row. nat_lt (rank row.key) j) rows

-- The rows with one key more, where it belongs.
unfoldable pub with_key : {K : Type 0} → (K → ℕ) → K → List (Record K) → List (Record K)
with_key rank key rows = insert rows (place_of rank (rank key) rows) (new_record key)
