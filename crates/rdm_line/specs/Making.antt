-- The making of a line: what is refused, and the line that is made.
use Rattle.std.specs.Prelude.{◌≡◌, ℕ, ◌-◌, Bool, true, false, cond, not, ◌&&◌, List, [], ◌∷◌, map, length, take, drop, replicate, Some, None, Ok, Err, Option, Result, ◌==◌, nat_le}
use Rattle.std.proofs.Common.{lit<}
use Rattle.keys.specs.KeyNumbers.{is_uid_number}
use Rattle.fixtures.specs.Fixture.{fresh_fixture}
use Rattle.fixtures.specs.declared.fixture.Fixture.{Fixture}
use Rattle.refusals.specs.declared.Refusal.{Refusal}
use Rattle.refusals.specs.declared.Refusal.TheVariants.{Malformed, AboveLimit, KeyTwice}
use Rattle.rdm_line.specs.Mode.{mode_number}
use Rattle.rdm_line.specs.State.{State, state_of, fitted}
use Rattle.rdm_line.specs.Table.{number_of, distinct}
use Rattle.rdm_line.specs.declared.line.RdmLine.{RdmLine}

-- A place to which no fixture is fitted.
abbrev pub empty_place : Fixture
empty_place = record {
  key = record { manufacturer = 0; device = 0; narrow = lit< tt; key = lit< tt };
  width = 0;
  address = None;
  muted = false;
}

-- Whether there can be a fixture of this number and width.
abbrev pub fits_one : ℕ → ℕ → Bool
fits_one number width = is_uid_number number && nat_le width 512

-- r is the fresh fixture of a number and a width, if there can be one.
abbrev pub NewFixture : ℕ → ℕ → Option Fixture → Type 0
NewFixture number width None = fits_one number width ≡ false
NewFixture number width (Some f) = (fits_one number width ≡ true) × (number_of f ≡ number) × (f ≡ fresh_fixture f.key width)

abbrev pub each_fits : List ℕ → List ℕ → Bool
each_fits [] widths = true
each_fits (number ∷ numbers) [] = true
each_fits (number ∷ numbers) (width ∷ widths) = fits_one number width && each_fits numbers widths

abbrev pub width_of : Fixture → ℕ
width_of f = f.width

-- A fixture with the same key and width as it is delivered.
abbrev pub as_delivered : Fixture → Fixture
as_delivered f = fresh_fixture f.key f.width

-- Fresh fixtures of these keys and widths, in this order.
pub record Delivered (keys widths : List ℕ) (fs : List Fixture) : Type 0 where
  pub keys_in_order : map number_of fs ≡ keys
  pub widths_in_order : map width_of fs ≡ widths
  pub fresh : map as_delivered fs ≡ fs

-- Empty places behind so many fixtures.
abbrev pub EmptyBehind : ℕ → List Fixture → Type 0
EmptyBehind n places = drop n places ≡ replicate (128 - n) empty_place

-- r is a table of fresh fixtures of these keys and widths, if there can be each.
abbrev pub NewTable : List ℕ → List ℕ → Option (List Fixture) → Type 0
NewTable keys widths None = each_fits keys widths ≡ false
NewTable keys widths (Some places) =
    (each_fits keys widths ≡ true) × Delivered keys widths (take (length keys) places) × EmptyBehind (length keys) places

-- At most 128 fixtures, a mode up to 3, keys, and widths up to 512.
unfoldable pub within_limits : List ℕ → List ℕ → ℕ → Bool
within_limits keys widths mode = nat_le mode 3 && (nat_le (length keys) 128 && each_fits keys widths)

-- Unequal lists, then anything above a limit, then a key twice.
abbrev pub making_refusal : List ℕ → List ℕ → ℕ → Option Refusal
making_refusal keys widths mode =
    cond (not (length keys == length widths)) (Some Malformed)
    (cond (not (within_limits keys widths mode)) (Some AboveLimit)
    (cond (not (distinct keys)) (Some KeyTwice) None))

-- The whole of the line that is made: the fixtures, empty places behind them, their count, the mode; and it is live.
pub record FittedOut (keys widths : List ℕ) (mode : ℕ) (s : State) : Type 0 where
  pub fixtures_fresh : Delivered keys widths (fitted s)
  pub others_empty : EmptyBehind s.count s.places
  pub all_counted : s.count ≡ length keys
  pub mode_of_number : mode_number s.mode ≡ mode
  pub is_live : s.live ≡ true

abbrev pub Made : List ℕ → List ℕ → ℕ → Result RdmLine Refusal → Type 0
Made keys widths mode (Ok line) = (making_refusal keys widths mode ≡ None) × FittedOut keys widths mode (state_of line)
Made keys widths mode (Err refusal) = making_refusal keys widths mode ≡ Some refusal
