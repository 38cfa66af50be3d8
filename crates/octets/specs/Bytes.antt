-- Numbers as bytes, high byte first, and sums of bytes.
use Rattle.std.specs.Prelude.{ℕ, ◌+◌, ◌*◌, ◌/◌, ◌%◌, ◌^◌, List, [], ◌∷◌, sum, slice_index}

abbrev pub two_bytes : ℕ → List ℕ
two_bytes n = n / 256 % 256 ∷ n % 256 ∷ []

abbrev pub six_bytes : ℕ → List ℕ
six_bytes n =
    n / 2 ^ 40 % 256 ∷ n / 2 ^ 32 % 256 ∷ n / 2 ^ 24 % 256 ∷ n / 2 ^ 16 % 256 ∷ n / 2 ^ 8 % 256 ∷ n % 256 ∷ []

-- The number that stands in two or six bytes from a place on.
abbrev pub two_at : List ℕ → ℕ → ℕ
two_at bytes i = slice_index bytes i * 256 + slice_index bytes (i + 1)

abbrev pub six_at : List ℕ → ℕ → ℕ
six_at bytes i =
    slice_index bytes i * 2 ^ 40
    + slice_index bytes (i + 1) * 2 ^ 32
    + slice_index bytes (i + 2) * 2 ^ 24
    + slice_index bytes (i + 3) * 2 ^ 16
    + slice_index bytes (i + 4) * 2 ^ 8
    + slice_index bytes (i + 5)

-- Every byte added, modulo 65,536.
abbrev pub checksum_of : List ℕ → ℕ
checksum_of bytes = sum bytes % 65536
