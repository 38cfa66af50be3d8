-- What stands in a buffer while it is written.
use Rattle.std.specs.Prelude.{ℕ, ◌+◌, List, ◌++◌, length, take, drop}

-- The buffer with a part written into it from a place on.
abbrev pub put_at : List ℕ → ℕ → List ℕ → List ℕ
put_at buf at part = take at buf ++ (part ++ drop (at + length part) buf)

-- The buffer with bytes written at its beginning.
abbrev pub begun : List ℕ → List ℕ → List ℕ
begun buf bytes = bytes ++ drop (length bytes) buf
