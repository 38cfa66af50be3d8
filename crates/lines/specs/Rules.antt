-- What each function of a line does to its meaning, and answers of it.
use Rattle.std.specs.Prelude.{◌≡◌, ℕ, ◌≤◌, Bool, true, false, cond, ◌&&◌, Some, None, Option, ◌==◌, ◌≢◌, nat_le}
use Rattle.std.specs.Option.{option_map}
use Rattle.keys.specs.Address.{in_family}
use Rattle.keys.specs.declared.address.Address.{Address}
use Rattle.keys.specs.declared.range.Range.{Range}
use Rattle.lines.specs.Meaning.{Fitted, Meaning, is_fitted, is_awake}
use Rattle.lines.specs.declared.answers.Footprint.{Footprint}
use Rattle.lines.specs.declared.answers.ProbeAnswer.{ProbeAnswer}
use Rattle.lines.specs.declared.answers.ProbeAnswer.TheVariants.{Silent}

abbrev pub with_awake : Bool → Fitted → Fitted
with_awake awake f = record { awake = awake; width = f.width; address = f.address }

abbrev pub with_address : Address → Fitted → Fitted
with_address a f = record { awake = f.awake; width = f.width; address = Some a }

-- rouse: the line is live and every fitted key is awake.
unfoldable pub roused : {K : Type 0} → Meaning K → Meaning K
roused m = record { live = true; at = λ k. option_map (with_awake true) (m.at k) }

-- rest: the line is shut, so no key is awake.
unfoldable pub rested : {K : Type 0} → Meaning K → Meaning K
rested m = record { live = false; at = λ k. option_map (with_awake false) (m.at k) }

-- The meaning with what is fitted at one key changed.
abbrev pub changed_at : {K : Type 0} → (K → ℕ) → K → (Fitted → Fitted) → Meaning K → Meaning K
changed_at rank k f m = record { live = m.live; at = λ j. cond (rank j == rank k) (option_map f (m.at j)) (m.at j) }

-- probe: silent if no awake key is at or below hi, not silent if one is from lo to hi. Which of the two it is where only
-- keys below lo are awake, and which key a clear answer has, is open.
pub record Probed {K : Type 0} (rank : K → ℕ) (m : Meaning K) (range : Range K) (r : ProbeAnswer K) : Type 0 where
  pub silent_if_none_awake_up_to_hi : ((k : K) → rank k ≤ rank range.hi → is_awake m k ≡ false) → r ≡ Silent
  pub not_silent_if_one_awake : (k : K) → rank range.lo ≤ rank k → rank k ≤ rank range.hi → is_awake m k ≡ true → r ≢ Silent

-- hush: yes exactly if the line is live and the key is fitted, awake or not. Then it is not awake.
abbrev pub hush_answer : {K : Type 0} → Meaning K → K → Bool
hush_answer m k = m.live && is_fitted m k

unfoldable pub hushed : {K : Type 0} → (K → ℕ) → Meaning K → K → Meaning K
hushed rank m k = cond (hush_answer m k) (changed_at rank k (with_awake false) m) m

-- query: width and address of a fitted key of a live line.
abbrev pub footprint_of : Fitted → Footprint
footprint_of f = record { width = f.width; address = f.address }

abbrev pub query_answer : {K : Type 0} → Meaning K → K → Option Footprint
query_answer m k = cond m.live (option_map footprint_of (m.at k)) None

-- set: yes exactly if the line is live, the key is fitted, its width is at least 1 and the address is in the family. Then
-- the key's address is that one.
abbrev pub wide_there : Option Fitted → Bool
wide_there (Some f) = nat_le 1 f.width
wide_there None = false

abbrev pub set_answer : {K : Type 0} → ℕ → ℕ → Meaning K → K → Address → Bool
set_answer first count m k a = m.live && (wide_there (m.at k) && in_family first count a)

unfoldable pub addressed : {K : Type 0} → (K → ℕ) → ℕ → ℕ → Meaning K → K → Address → Meaning K
addressed rank first count m k a = cond (set_answer first count m k a) (changed_at rank k (with_address a) m) m
