-- What holds of the fixtures that are fitted to a line.
use Rattle.std.specs.Prelude.{ℕ, Bool, true, not, ◌&&◌, ◌||◌, List, map, Some, None, Option, nat_le}
use Rattle.std.specs.List.{list_all}
use Rattle.keys.specs.Address.{in_family}
use Rattle.keys.specs.Uid.{uid_number}
use Rattle.keys.specs.declared.address.Address.{Address}
use Rattle.fixtures.specs.declared.fixture.Fixture.{Fixture}
use Rattle.lines.specs.Twice.{has_twice}

abbrev pub number_of : Fixture → ℕ
number_of f = uid_number f.key

-- No number stands twice.
abbrev pub distinct : List ℕ → Bool
distinct ns = not (has_twice ns)

-- A fixture with an address takes slots, and begins at one of the slots 1 to 512.
abbrev pub address_fits : ℕ → Option Address → Bool
address_fits width None = true
address_fits width (Some a) = nat_le 1 width && in_family 1 512 a

abbrev pub is_sound : Fixture → Bool
is_sound f = nat_le f.width 512 && address_fits f.width f.address

abbrev pub is_muted : Fixture → Bool
is_muted f = f.muted

unfoldable pub keys_distinct : List Fixture → Bool
keys_distinct fs = distinct (map number_of fs)

unfoldable pub all_sound : List Fixture → Bool
all_sound fs = list_all is_sound fs

-- Every fixture of a line that is not live is muted.
unfoldable pub muted_unless : Bool → List Fixture → Bool
muted_unless live fs = live || list_all is_muted fs
