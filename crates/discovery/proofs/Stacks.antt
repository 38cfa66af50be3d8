-- Pending ranges in fixed memory, the lowest last.
use Rattle.std.proofs.Common.{◌≡◌, ℕ, ◌+◌, ◌-◌, ◌<◌, ◌≤◌, true, false, ◌⊎◌, List, [], ◌∷◌, ◌++◌, map, reverse, length, get_or, take, set, Some, None, sym, refl, ap, ◌∙◌, inl, inr, arith}
use Rattle.std.proofs.lemmas.List.{get_or-take, take_more, take_more_set, reverse-append, length-map, length-reverse, length-take-le, length-set}
use Rattle.std.proofs.lemmas.Bool.{cases_lt, lt-ltb, le-ltb}
use Rattle.std.proofs.lemmas.Option.{slice_get_cases}
use Rattle.std.specs.List.{slice_get}
use Rattle.std.specs.Option.{option_map}
use Rattle.keys.specs.declared.range.Range.{Range}
use Rattle.walk_law.specs.Run.{range_ranks}
use Rattle.discovery.specs.Pending.{stacked, ranks_of, first_of, without_first, has_memory}
use Rattle.discovery.specs.declared.pending.Pending.{Pending}

module _ {K : Type 0} (rank : K → ℕ) (xs : List (Range K)) (n : ℕ) where
  pub stacked_none : stacked rank 0 xs ≡ []
  unfolding stacked
  stacked_none = refl

  pub length-stacked : n ≤ length xs → length (stacked rank n xs) ≡ n
  unfolding stacked
  length-stacked le =
      length-map (reverse (take n xs)) (range_ranks rank) ∙ length-reverse (take n xs) ∙ length-take-le n xs le

  module _ (within : n < length xs) where
    on_top : (x : Range K) → map (range_ranks rank) (reverse (take n xs ++ x ∷ [])) ≡ range_ranks rank x ∷ stacked rank n xs
    unfolding stacked
    on_top x = ap (map (range_ranks rank)) (reverse-append (take n xs) (x ∷ []))

    -- One more range is the lowest.
    pub stacked_more : (d : Range K) → stacked rank (n + 1) xs ≡ range_ranks rank (get_or xs n d) ∷ stacked rank n xs
    unfolding stacked
    stacked_more d = ap (λ l. map (range_ranks rank) (reverse l)) (take_more xs n d within) ∙ on_top (get_or xs n d)

    pub stacked_set : (x : Range K) → stacked rank (n + 1) (set xs n x) ≡ range_ranks rank x ∷ stacked rank n xs
    unfolding stacked
    stacked_set x = ap (λ l. map (range_ranks rank) (reverse l)) (take_more_set xs n x within) ∙ on_top x

-- The lowest range, where there is one.
module _ {K : Type 0} (rank : K → ℕ) (xs : List (Range K)) (n : ℕ) where
  pub stacked_empty : n ≡ 0 → stacked rank n xs ≡ []
  stacked_empty e = ap (λ i. stacked rank i xs) e ∙ stacked_none rank xs 0

  module _ (some : 0 < n) (within : n ≤ length xs) where
    one_less : n ≡ n - 1 + 1
    one_less = omega arith

    pub stacked_top : (d : Range K) → stacked rank n xs ≡ range_ranks rank (get_or xs (n - 1) d) ∷ stacked rank (n - 1) xs
    stacked_top d = ap (λ i. stacked rank i xs) one_less ∙ stacked_more rank xs (n - 1) (omega arith) d

    -- Two ranges in its place.
    pub stacked_halves : (lower upper : Range K) → n < length xs
        → stacked rank (n + 1) (set (set xs (n - 1) upper) n lower) ≡ range_ranks rank lower ∷ range_ranks rank upper ∷ stacked rank (n - 1) xs
    stacked_halves lower upper room =
        let ys = set xs (n - 1) upper in
        stacked_set rank ys n (simp length-set (omega arith)) lower
        ∙ ap (λ l. range_ranks rank lower ∷ l) (ap (λ i. stacked rank i ys) one_less ∙ stacked_set rank xs (n - 1) (omega arith) upper)

-- The lowest range is the last of those in memory.
pub stacked_first : {K : Type 0} (rank : K → ℕ) (xs : List (Range K)) (n : ℕ) → n ≤ length xs
    → option_map (range_ranks rank) (slice_get (take n xs) (length (take n xs) - 1)) ≡ first_of (stacked rank n xs)
stacked_first {K} rank xs n within = by (slice_get_cases (take n xs) (length (take n xs) - 1)).1
  where
    long : length (take n xs) ≡ n
    long = length-take-le n xs within

    by : ((x : Range K) × (length (take n xs) - 1 < length (take n xs)) × (slice_get (take n xs) (length (take n xs) - 1) ≡ Some x) × (get_or (take n xs) (length (take n xs) - 1) x ≡ x))
        ⊎ ((length (take n xs) ≤ length (take n xs) - 1) × (slice_get (take n xs) (length (take n xs) - 1) ≡ None))
        → option_map (range_ranks rank) (slice_get (take n xs) (length (take n xs) - 1)) ≡ first_of (stacked rank n xs)
    by (inl (x, inside, is, here)) =
        let some : 0 < n = omega (arith, long) in
        let top = stacked_top rank xs n some within x in
        let at : get_or xs (n - 1) x ≡ x = sym (get_or-take n xs (n - 1) x (omega arith)) ∙ ap (λ i. get_or (take n xs) (i - 1) x) (sym long) ∙ here in
        ap (option_map (range_ranks rank)) is ∙ ap (λ y. Some (range_ranks rank y)) (sym at) ∙ sym (ap first_of top)
    by (inr (past, is)) = ap (option_map (range_ranks rank)) is ∙ sym (ap first_of (stacked_empty rank xs n (omega (arith, long))))

some_range : {K : Type 0} (xs : List (Range K)) → 0 < length xs → Range K
some_range [] less = absurd (omega arith)
some_range (x ∷ xs) less = x

module _ {K : Type 0} (rank : K → ℕ) (xs : List (Range K)) (n : ℕ) (size : length xs ≡ 49) (deep : n ≤ 49) where
  pub stacked_rest : without_first (stacked rank n xs) ≡ stacked rank (n - 1) xs
  stacked_rest = by_size (cases_lt 0 n)
    where
      by_size : (0 < n) ⊎ (n ≤ 0) → without_first (stacked rank n xs) ≡ stacked rank (n - 1) xs
      by_size (inl some) = ap without_first (stacked_top rank xs n some (omega arith) (some_range xs (omega arith)))
      by_size (inr none) = ap without_first (stacked_empty rank xs n (omega arith)) ∙ sym (stacked_empty rank xs (n - 1) (omega arith))

  -- Whether there is memory for one more range.
  pub memory_left : 0 < n → n < 49 → has_memory (stacked rank n xs) ≡ true
  memory_left some room =
      let top = stacked_top rank xs n some (omega arith) (some_range xs (omega arith)) in
      let long = length-stacked rank xs (n - 1) (omega arith) in
      ap has_memory top ∙ lt-ltb _ 49 (omega arith)

  pub no_memory_left : (n ≡ 0) ⊎ (n ≡ 49) → has_memory (stacked rank n xs) ≡ false
  no_memory_left (inl none) = ap has_memory (stacked_empty rank xs n none)
  no_memory_left (inr full) =
      let top = stacked_top rank xs n (omega arith) (omega arith) (some_range xs (omega arith)) in
      let long = length-stacked rank xs (n - 1) (omega arith) in
      ap has_memory top ∙ le-ltb _ 49 (omega arith)

-- No more are pending than there is memory for.
pub few_pending : {K : Type 0} (rank : K → ℕ) (p : Pending K) → length (ranks_of rank p) ≤ 49
few_pending rank p =
    let size = p.size in
    let deep = p.deep in
    let long = length-stacked rank p.ranges p.depth (omega arith) in
    omega arith
