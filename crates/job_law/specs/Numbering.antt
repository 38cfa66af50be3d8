-- How the fixtures in a book are numbered.
use Rattle.std.specs.Prelude.{ℕ, zero, suc, ◌+◌, Bool, true, false, cond, ◌&&◌, List, [], ◌∷◌, map, is_some, Some, None, sum, Option, ◌==◌}
use Rattle.keys.specs.Address.{in_family}
use Rattle.keys.specs.declared.address.Address.{Address}
use Rattle.lines.specs.Meaning.{Meaning}
use Rattle.lines.specs.Rules.{query_answer, addressed}
use Rattle.lines.specs.declared.answers.Footprint.{Footprint}
use Rattle.records.specs.declared.record.Record.{Record}

-- The address of a width, if the next free slot is this one: none at width 0.
abbrev pub address_at : ℕ → ℕ → Option Address
address_at next zero = None
address_at next (suc w) = Some (record { slot = next })

-- In this order each width above 0 gets the next slots.
abbrev pub assigned : ℕ → List ℕ → List (Option Address)
assigned next [] = []
assigned next (w ∷ ws) = address_at next w ∷ assigned (next + w) ws

-- What each row's key answers when it is asked for its width.
abbrev pub asked_widths : {K : Type 0} → Meaning K → List (Record K) → List (Option Footprint)
asked_widths m rows = map (λ row. query_answer m row.key) rows

abbrev pub all_answered : List (Option Footprint) → Bool
all_answered [] = true
all_answered (a ∷ rest) = is_some a && all_answered rest

abbrev pub width_of : Option Footprint → ℕ
width_of (Some f) = f.width
width_of None = 0

-- The widths in sum, if every key answers.
abbrev pub total_of : {K : Type 0} → Meaning K → List (Record K) → Option ℕ
total_of m rows = cond (all_answered (asked_widths m rows)) (Some (sum (map width_of (asked_widths m rows)))) None

-- The widths that a line tells of the rows.
abbrev pub told_widths : {K : Type 0} → Meaning K → List (Record K) → List ℕ
told_widths m rows = map width_of (asked_widths m rows)

-- The rows with their widths and addresses, the first free slot being this one.
abbrev pub numbered : {K : Type 0} → ℕ → Meaning K → List (Record K) → List (Record K)
numbered next m [] = []
numbered next m (row ∷ rows) =
    record { key = row.key; width = width_of (query_answer m row.key); address = address_at next (width_of (query_answer m row.key)) }
    ∷ numbered (next + width_of (query_answer m row.key)) m rows

-- A row's address suits its width: one of the family's above width 0, none at width 0.
abbrev pub address_suits : ℕ → ℕ → ℕ → Option Address → Bool
address_suits first count zero None = true
address_suits first count zero (Some a) = false
address_suits first count (suc w) None = false
address_suits first count (suc w) (Some a) = in_family first count a

abbrev pub answers_as : ℕ → Option Footprint → Bool
answers_as width None = false
answers_as width (Some f) = f.width == width

-- A row that can be written to its fixture: it answers, with the width that the book has, and its address suits that.
abbrev pub row_stands : {K : Type 0} → ℕ → ℕ → Meaning K → Record K → Bool
row_stands first count m row =
    answers_as row.width (query_answer m row.key) && address_suits first count row.width row.address

abbrev pub all_stand : {K : Type 0} → ℕ → ℕ → Meaning K → List (Record K) → Bool
all_stand first count m [] = true
all_stand first count m (row ∷ rows) = row_stands first count m row && all_stand first count m rows

-- What a line means once one row's address, if it has one, is written to its fixture.
abbrev pub written_to : {K : Type 0} → (K → ℕ) → ℕ → ℕ → Meaning K → K → Option Address → Meaning K
written_to rank first count m k None = m
written_to rank first count m k (Some a) = addressed rank first count m k a

-- And once all of them are, in order.
abbrev pub all_written : {K : Type 0} → (K → ℕ) → ℕ → ℕ → Meaning K → List (Record K) → Meaning K
all_written rank first count m [] = m
all_written rank first count m (row ∷ rows) =
    all_written rank first count (written_to rank first count m row.key row.address) rows
