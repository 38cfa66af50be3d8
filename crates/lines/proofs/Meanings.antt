-- What the functions of a line leave of live, fitted and awake.
use Rattle.std.proofs.Common.{◌≡◌, ℕ, Bool, true, false, cond, not, ◌&&◌, eqb, is_some, Some, None, Option, sym, refl, ap, ◌∙◌}
use Rattle.std.proofs.Math.Bool.{and-true, and-false}
use Rattle.std.proofs.lemmas.Bool.{eqb-true}
use Rattle.std.specs.Option.{option_map}
use Rattle.keys.specs.declared.address.Address.{Address}
use Rattle.lines.specs.Meaning.{Fitted, Meaning, is_fitted, is_awake, awake_there}
use Rattle.lines.specs.Rules.{with_awake, with_address, changed_at, roused, rested, hush_answer, hushed, set_answer, addressed}

pub some_mapped : {A B : Type 0} (f : A → B) (o : Option A) → is_some (option_map f o) ≡ is_some o
some_mapped f (Some x) = refl
some_mapped f None = refl

awake_mapped : (b : Bool) (o : Option Fitted) → awake_there (option_map (with_awake b) o) ≡ (is_some o && b)
awake_mapped b (Some f) = refl
awake_mapped b None = refl

awake_addressed : (a : Address) (o : Option Fitted) → awake_there (option_map (with_address a) o) ≡ awake_there o
awake_addressed a (Some f) = refl
awake_addressed a None = refl

module _ {K : Type 0} (m : Meaning K) where
  pub live_roused : (roused m).live ≡ true
  unfolding roused
  live_roused = refl

  pub fitted_roused : (k : K) → is_fitted (roused m) k ≡ is_fitted m k
  unfolding roused
  fitted_roused k = some_mapped (with_awake true) (m.at k)

  pub awake_roused : (k : K) → is_awake (roused m) k ≡ is_fitted m k
  unfolding roused
  awake_roused k = awake_mapped true (m.at k) ∙ and-true _

  pub live_rested : (rested m).live ≡ false
  unfolding rested
  live_rested = refl

  pub fitted_rested : (k : K) → is_fitted (rested m) k ≡ is_fitted m k
  unfolding rested
  fitted_rested k = some_mapped (with_awake false) (m.at k)

  pub awake_rested : (k : K) → is_awake (rested m) k ≡ false
  unfolding rested
  awake_rested k = awake_mapped false (m.at k) ∙ and-false _

module _ {K : Type 0} (rank : K → ℕ) (m : Meaning K) (k : K) where
  by_live : (yes : Bool) (f : Fitted → Fitted) → (cond yes (changed_at rank k f m) m).live ≡ m.live
  by_live true f = refl
  by_live false f = refl

  by_fitted : (yes : Bool) (f : Fitted → Fitted) (j : K) → is_fitted (cond yes (changed_at rank k f m) m) j ≡ is_fitted m j
  by_fitted false f j = refl
  by_fitted true f j = here (eqb (rank j) (rank k))
    where
      here : (t : Bool) → is_some (cond t (option_map f (m.at j)) (m.at j)) ≡ is_fitted m j
      here true = some_mapped f (m.at j)
      here false = refl

  pub live_hushed : (hushed rank m k).live ≡ m.live
  unfolding hushed
  live_hushed = by_live (hush_answer m k) (with_awake false)

  pub fitted_hushed : (j : K) → is_fitted (hushed rank m k) j ≡ is_fitted m j
  unfolding hushed
  fitted_hushed = by_fitted (hush_answer m k) (with_awake false)

  -- The key itself is not awake any more, if it answered; every other is as it was.
  pub awake_hushed : (j : K) → is_awake (hushed rank m k) j ≡ cond (hush_answer m k && eqb (rank j) (rank k)) false (is_awake m j)
  unfolding hushed
  awake_hushed j = by (hush_answer m k) (eqb (rank j) (rank k))
    where
      asleep : (t : Bool) → awake_there (cond t (option_map (with_awake false) (m.at j)) (m.at j)) ≡ cond t false (is_awake m j)
      asleep true = awake_mapped false (m.at j) ∙ and-false _
      asleep false = refl

      by : (yes t : Bool) → is_awake (cond yes (record { live = m.live; at = λ i. cond (eqb (rank i) (rank k)) (option_map (with_awake false) (m.at i)) (m.at i) }) m) j ≡ cond (yes && eqb (rank j) (rank k)) false (is_awake m j)
      by true t = asleep (eqb (rank j) (rank k))
      by false t = refl

  pub live_addressed : (first count : ℕ) (a : Address) → (addressed rank first count m k a).live ≡ m.live
  unfolding addressed
  live_addressed first count a = by_live (set_answer first count m k a) (with_address a)

  pub fitted_addressed : (first count : ℕ) (a : Address) (j : K) → is_fitted (addressed rank first count m k a) j ≡ is_fitted m j
  unfolding addressed
  fitted_addressed first count a = by_fitted (set_answer first count m k a) (with_address a)

  pub awake_addressed_at : (first count : ℕ) (a : Address) (j : K) → is_awake (addressed rank first count m k a) j ≡ is_awake m j
  unfolding addressed
  awake_addressed_at first count a j = by (set_answer first count m k a)
    where
      here : (t : Bool) → awake_there (cond t (option_map (with_address a) (m.at j)) (m.at j)) ≡ is_awake m j
      here true = awake_addressed a (m.at j)
      here false = refl

      by : (yes : Bool) → is_awake (cond yes (changed_at rank k (with_address a) m) m) j ≡ is_awake m j
      by true = here (eqb (rank j) (rank k))
      by false = refl

-- Every fitted key but one is awake, once all are roused and that one is hushed.
module _ {K : Type 0} (rank : K → ℕ) (same : (x y : K) → rank x ≡ rank y → x ≡ y) (m : Meaning K) (key : K) where
  pub answer_roused : hush_answer (roused m) key ≡ is_fitted m key
  answer_roused = rw (live_roused m, fitted_roused m key)

  but_itself : (yes t fitted : Bool) → (t ≡ true → fitted ≡ yes) → cond (yes && t) false fitted ≡ (fitted && not t)
  but_itself true true fitted e = sym (and-false fitted)
  but_itself true false fitted e = sym (and-true fitted)
  but_itself false true fitted e = e refl ∙ sym (and-false fitted)
  but_itself false false fitted e = sym (and-true fitted)

  pub awake_but_one : (k : K) → is_awake (hushed rank (roused m) key) k ≡ (is_fitted m k && not (eqb (rank k) (rank key)))
  awake_but_one k =
      awake_hushed rank (roused m) key k
      ∙ rw (answer_roused, awake_roused m k)
      (but_itself (is_fitted m key) (eqb (rank k) (rank key)) (is_fitted m k) (λ e. ap (is_fitted m) (same k key (eqb-true _ _ e))))
