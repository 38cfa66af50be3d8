-- Whatever a line is asked, its fixtures stay.
use Rattle.std.proofs.Common.{◌≡◌, ℕ, Bool, true, false, cond, eqb, is_some, Some, None, Option, sym, refl, ap, ◌∙◌}
use Rattle.std.specs.Option.{option_map}
use Rattle.keys.specs.declared.address.Address.{Address}
use Rattle.lines.specs.Meaning.{Fitted, Meaning, is_fitted, width_there, SameFixtures}
use Rattle.lines.specs.Rules.{roused, rested, hushed, addressed, hush_answer, set_answer, changed_at, with_awake, with_address}

-- The width stays, whatever is done to a fixture besides.
width_kept : (f : Fitted → Fitted) → ((x : Fitted) → (f x).width ≡ x.width) → (o : Option Fitted) → width_there (option_map f o) ≡ width_there o
width_kept f keeps (Some x) = ap (λ n. Some n) (keeps x)
width_kept f keeps None = refl

changed_there : (f : Fitted → Fitted) → ((x : Fitted) → (f x).width ≡ x.width) → (here : Bool) (o : Option Fitted)
    → width_there (cond here (option_map f o) o) ≡ width_there o
changed_there f keeps true o = width_kept f keeps o
changed_there f keeps false o = refl

fitted_by_width : (o : Option Fitted) → is_some (width_there o) ≡ is_some o
fitted_by_width (Some f) = refl
fitted_by_width None = refl

module _ {K : Type 0} where
  pub same_again : (m : Meaning K) → SameFixtures m m
  same_again m k = refl

  pub same_then : (m n o : Meaning K) → SameFixtures m n → SameFixtures n o → SameFixtures m o
  same_then m n o first then k = then k ∙ first k

  -- So the same keys are fitted.
  pub same_fitted : (m n : Meaning K) → SameFixtures m n → (k : K) → is_fitted n k ≡ is_fitted m k
  same_fitted m n same k = sym (fitted_by_width (n.at k)) ∙ ap is_some (same k) ∙ fitted_by_width (m.at k)

  pub same_roused : (m : Meaning K) → SameFixtures m (roused m)
  unfolding roused
  same_roused m k = width_kept (with_awake true) (λ x. refl) (m.at k)

  pub same_rested : (m : Meaning K) → SameFixtures m (rested m)
  unfolding rested
  same_rested m k = width_kept (with_awake false) (λ x. refl) (m.at k)

  changed : (rank : K → ℕ) (m : Meaning K) (k : K) (f : Fitted → Fitted) → ((x : Fitted) → (f x).width ≡ x.width) → (yes : Bool)
      → SameFixtures m (cond yes (changed_at rank k f m) m)
  changed rank m k f keeps true j = changed_there f keeps (eqb (rank j) (rank k)) (m.at j)
  changed rank m k f keeps false j = refl

  pub same_hushed : (rank : K → ℕ) (m : Meaning K) (k : K) → SameFixtures m (hushed rank m k)
  unfolding hushed
  same_hushed rank m k = changed rank m k (with_awake false) (λ x. refl) (hush_answer m k)

  pub same_addressed : (rank : K → ℕ) (first count : ℕ) (m : Meaning K) (k : K) (a : Address) → SameFixtures m (addressed rank first count m k a)
  unfolding addressed
  same_addressed rank first count m k a = changed rank m k (with_address a) (λ x. refl) (set_answer first count m k a)
