-- What a line means: whether it is live, and for each key of its family what is fitted there.
use Rattle.std.specs.Prelude.{◌≡◌, ℕ, ◌≤◌, Bool, true, false, is_some, IfSome, Some, None, Option}
use Rattle.keys.specs.Address.{in_family}
use Rattle.keys.specs.declared.address.Address.{Address}

-- What is fitted at a key: one fixture. It takes part in a search while it is awake; its width is the number of addresses
-- that it takes, from its own address upwards.
pub record Fitted : Type 0 where
  pub awake : Bool
  pub width : ℕ
  pub address : Option Address

pub record Meaning (K : Type 0) : Type 0 where
  pub live : Bool
  pub at : K → Option Fitted

abbrev pub is_fitted : {K : Type 0} → Meaning K → K → Bool
is_fitted m k = is_some (m.at k)

abbrev pub awake_there : Option Fitted → Bool
awake_there (Some f) = f.awake
awake_there None = false

abbrev pub is_awake : {K : Type 0} → Meaning K → K → Bool
is_awake m k = awake_there (m.at k)

-- What every fixture of a family keeps: its width is at most COUNT, its address is one of the family's, it has none at
-- width 0, and it is not awake on a line that is shut.
pub record SoundFixture (first count : ℕ) (live : Bool) (f : Fitted) : Type 0 where
  pub width_at_most_count : f.width ≤ count
  pub address_in_family : IfSome f.address (λ a. in_family first count a ≡ true)
  pub no_address_at_width_0 : f.width ≡ 0 → f.address ≡ None
  pub asleep_while_shut : live ≡ false → f.awake ≡ false

-- What every meaning keeps.
abbrev pub Sound : {K : Type 0} → ℕ → ℕ → Meaning K → Type 0
Sound {K} first count m = (k : K) → IfSome (m.at k) (SoundFixture first count m.live)

-- The same fixtures are fitted, with the same widths.
abbrev pub width_there : Option Fitted → Option ℕ
width_there (Some f) = Some f.width
width_there None = None

abbrev pub SameFixtures : {K : Type 0} → Meaning K → Meaning K → Type 0
SameFixtures {K} m n = (k : K) → width_there (n.at k) ≡ width_there (m.at k)
