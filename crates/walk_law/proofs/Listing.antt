-- The book of a walk over a line: it lists fitted keys that are not awake, and every other fitted key is awake.
use Rattle.std.proofs.Common.{◌≡◌, ℕ, ◌^◌, ◌<◌, ◌≤◌, true, false, cond, ◌&&◌, eqb, ◌⊎◌, List, [], length, sym, ap, ◌∙◌, inl, inr, arith}
use Rattle.std.proofs.lemmas.Bool.{and_parts, and_from, or_cases, or_parts, eqb-true}
use Rattle.std.specs.List.{AllByRecursion}
use Rattle.lines.specs.Meaning.{Meaning, is_fitted, is_awake}
use Rattle.lines.specs.Rules.{hush_answer, hushed}
use Rattle.lines.proofs.Meanings.{live_hushed, fitted_hushed, awake_hushed}
use Rattle.walk_law.specs.Ranks.{is_in, put_in, Ascends}
use Rattle.walk_law.proofs.Honest.{hushed_asleep}
use Rattle.walk_law.proofs.RankLists.{length-put_in, is_in_put_in, ascends_put_in, all_put_in}

-- The laws of a family of keys.
pub record Laws {K : Type 0} (rank : K → ℕ) (levels top : ℕ) : Type 0 where
  pub same : (x y : K) → rank x ≡ rank y → x ≡ y
  pub within : (x : K) → rank x ≤ top
  pub every : (n : ℕ) → n ≤ top → (x : K) × (rank x ≡ n)
  pub narrow : top < 2 ^ levels
  pub few_levels : levels ≤ 48

module _ {K : Type 0} (rank : K → ℕ) (top places : ℕ) where
  pub record Listing (m : Meaning K) (listed : List ℕ) : Type 0 where
    pub live : m.live ≡ true
    pub ascends : Ascends listed
    pub fits : length listed ≤ places
    pub within : AllByRecursion (λ j. j ≤ top) listed
    pub listed_fitted : (k : K) → is_in (rank k) listed ≡ true → is_fitted m k ≡ true
    pub listed_asleep : (k : K) → is_in (rank k) listed ≡ true → is_awake m k ≡ false
    pub awake_or_listed : (k : K) → is_fitted m k ≡ true → is_in (rank k) listed ≡ false → is_awake m k ≡ true

  -- At first nothing is listed, and every fitted key is awake.
  pub listing_none : (m : Meaning K) → m.live ≡ true → ((k : K) → is_awake m k ≡ is_fitted m k) → Listing m []
  unfolding is_in
  listing_none m live all_awake = record {
    live = live;
    ascends = tt;
    fits = omega arith;
    within = tt;
    listed_fitted = λ k is. cc;
    listed_asleep = λ k is. cc;
    awake_or_listed = λ k fitted _. all_awake k ∙ fitted;
  }

  -- A key that answered its hush is listed.
  module _ (levels : ℕ) (laws : Laws rank levels top) (m : Meaning K) (listed : List ℕ) (book : Listing m listed) (k : K)
      (answered : hush_answer m k ≡ true)
      (new : is_in (rank k) listed ≡ false)
      (free : length listed < places) where
    in_more : (j : K) → is_in (rank j) (put_in (rank k) listed) ≡ true → (eqb (rank j) (rank k) ≡ true) ⊎ (is_in (rank j) listed ≡ true)
    in_more j is = or_cases _ _ (sym (is_in_put_in (rank j) (rank k) listed) ∙ is)

    not_in_more : (j : K) → is_in (rank j) (put_in (rank k) listed) ≡ false → (eqb (rank j) (rank k) ≡ false) × (is_in (rank j) listed ≡ false)
    not_in_more j out = or_parts _ _ (sym (is_in_put_in (rank j) (rank k) listed) ∙ out)

    fitted_more : (j : K) → (eqb (rank j) (rank k) ≡ true) ⊎ (is_in (rank j) listed ≡ true) → is_fitted m j ≡ true
    fitted_more j (inl is) = ap (is_fitted m) (laws.same j k (eqb-true _ _ is)) ∙ (and_parts m.live (is_fitted m k) answered).1
    fitted_more j (inr is) = book.listed_fitted j is

    asleep_more : (j : K) → (eqb (rank j) (rank k) ≡ true) ⊎ (is_in (rank j) listed ≡ true) → is_awake (hushed rank m k) j ≡ false
    asleep_more j (inl is) = awake_hushed rank m k j ∙ ap (λ t. cond t false (is_awake m j)) (and_from _ _ answered is)
    asleep_more j (inr is) = hushed_asleep rank m k j (book.listed_asleep j is)

    still_awake : (j : K) → is_fitted m j ≡ true → (eqb (rank j) (rank k) ≡ false) × (is_in (rank j) listed ≡ false) → is_awake (hushed rank m k) j ≡ true
    still_awake j fitted (apart, out) =
        awake_hushed rank m k j
        ∙ ap (λ t. cond t false (is_awake m j)) (ap (λ t. hush_answer m k && t) apart ∙ ap (λ t. t && false) answered)
        ∙ book.awake_or_listed j fitted out

    pub listing_more : Listing (hushed rank m k) (put_in (rank k) listed)
    listing_more = record {
      live = live_hushed rank m k ∙ book.live;
      ascends = ascends_put_in 0 (rank k) listed book.ascends (omega arith) new;
      fits = rw (length-put_in (rank k) listed) free;
      within = all_put_in (λ j. j ≤ top) (rank k) listed (laws.within k) book.within;
      listed_fitted = λ j is. fitted_hushed rank m k j ∙ fitted_more j (in_more j is);
      listed_asleep = λ j is. asleep_more j (in_more j is);
      awake_or_listed = λ j fitted out. still_awake j (sym (fitted_hushed rank m k j) ∙ fitted) (not_in_more j out);
    }
