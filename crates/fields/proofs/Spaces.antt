-- The fields of a line are its parts between spaces.
use Rattle.std.proofs.Common.{◌≡◌, ℕ, zero, suc, ◌+◌, ◌<◌, ◌≤◌, Bool, true, false, not, ◌⊎◌, List, [], ◌∷◌, length, drop, Some, eqb, sym, ap, inl, inr, arith}
use Rattle.std.specs.List.{slice_get, slice_split}
use Rattle.std.proofs.lemmas.List.{take_all}
use Rattle.std.proofs.lemmas.List.Elements.{All-from_get_or}
use Rattle.std.proofs.lemmas.List.Splits.{slice_split_none, slice_split_first}
use Rattle.std.proofs.lemmas.List.Sums.{prefix_len_passes}
use Rattle.std.proofs.lemmas.Bool.{lt-ltb, le-ltb, cases_lt}
use Rattle.fields.specs.Fields.{is_other, space_at, field_at}

abbrev is_space : ℕ → Bool
is_space c = eqb c 32

abbrev parts : List ℕ → List (List ℕ)
parts line = slice_split is_space line

not_true : (b : Bool) → not b ≡ true → b ≡ false
not_true b e = grind arith

one_part : (line : List ℕ) → length line ≤ space_at line → parts line ≡ line ∷ []
one_part line last =
    slice_split_none is_space line
    (All-from_get_or (λ c. is_space c ≡ false) line 0 (λ i h. not_true _ (prefix_len_passes is_other line i 0 (omega arith))))

part_is : (n : ℕ) (line : List ℕ) → (space_at line < length line) ⊎ (length line ≤ space_at line) → slice_get (parts line) n ≡ field_at n line
part_is zero line (inl more) = rw (slice_split_first is_space line 0 more)
part_is zero line (inr last) = rw (one_part line last) (ap Some (sym (take_all (space_at line) line last)))
part_is (suc n) line (inl more) =
    let rest = drop (space_at line + 1) line in
    rw (slice_split_first is_space line 0 more, lt-ltb (space_at line) (length line) more) (part_is n rest (cases_lt (space_at rest) (length rest)))
part_is (suc n) line (inr last) = rw (one_part line last, le-ltb (space_at line) (length line) last)

pub field_is_part : (n : ℕ) (line : List ℕ) → slice_get (parts line) n ≡ field_at n line
field_is_part n line = part_is n line (cases_lt (space_at line) (length line))
