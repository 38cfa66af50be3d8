-- What holds of a walk over a line, from question to question.
use Rattle.std.proofs.Common.{◌≡◌, ℕ, zero, suc, ◌+◌, ◌*◌, ◌^◌, ◌<◌, ◌≤◌, true, false, cond, ◌⊎◌, List, [], ◌∷◌, length, Some, None, Option, refl, ap, ◌∙◌, inl, inr, arith}
use Rattle.std.proofs.ByRecursion.{All-weaker}
use Rattle.std.proofs.lemmas.Bool.{and_from, and_parts, cases_lt, eq-eqb}
use Rattle.std.specs.List.{AllByRecursion}
use Rattle.keys.specs.declared.range.Range.{Range}
use Rattle.lines.specs.Meaning.{Meaning, is_fitted, is_awake}
use Rattle.lines.specs.Rules.{hush_answer, hushed}
use Rattle.lines.proofs.Meanings.{awake_hushed, fitted_hushed}
use Rattle.walk_law.specs.Ranks.{is_in, put_in, Ascends}
use Rattle.walk_law.specs.Walk.{Walk, lower_half, upper_half}
use Rattle.walk_law.specs.declared.phase.Phase.{Phase}
use Rattle.walk_law.specs.declared.phase.Phase.TheVariants.{Walking, Walked, Laid, Set, Full, Contradicted}
use Rattle.walk_law.proofs.Honest.{NoneAwakeBelow, none_below_less, none_below_hushed}
use Rattle.walk_law.proofs.Listing.{Laws, Listing, listing_more}
use Rattle.walk_law.proofs.NestedRanges.{Nested, NestedFrom, nested_next, nested_halves, nested_all, begins_within}
use Rattle.walk_law.proofs.RankLists.{length-put_in}

-- Where the lowest awake key is at or above the beginning of a range, the range has at most so many keys.
abbrev pub Near : {K : Type 0} → (K → ℕ) → Meaning K → ℕ → List (Range ℕ) → Type 0
Near rank m spread ranges = AllByRecursion (λ s. NoneAwakeBelow rank m s.lo → s.hi < s.lo + 2 ^ spread) ranges

-- A key of the range whose hush is next: it is not listed, and the range was heard from.
abbrev pub Due : {K : Type 0} → (K → ℕ) → Meaning K → Range ℕ → List ℕ → Option ℕ → Type 0
Due rank m r listed None = Unit {0}
Due rank m r listed (Some k) = (r.lo ≤ k) × (k ≤ r.hi) × (is_in k listed ≡ false) × (NoneAwakeBelow rank m (suc r.hi) → ⊥)

abbrev pub owed : Option ℕ → ℕ
owed None = 0
owed (Some k) = 1

-- Ranges up to the highest rank are as narrow as all keys together.
ends_within : (c low top : ℕ) (rs : List (Range ℕ)) → NestedFrom c low top rs → AllByRecursion (λ s. s.hi ≤ top) rs
ends_within c low top [] e = tt
ends_within c low top (s ∷ ss) (begins, ordered, narrow, rest) =
    let next = begins_within (suc c) (suc s.hi) top ss rest in
    (omega arith, ends_within (suc c) (suc s.hi) top ss rest)

module _ {K : Type 0} (rank : K → ℕ) (levels top places : ℕ) where
  -- So many questions at most were asked with so many keys listed.
  abbrev pub most : List ℕ → ℕ
  most listed = suc (length listed) * (3 * levels + 2)

  pub record Walks (m : Meaning K) (r : Range ℕ) (rs : List (Range ℕ)) (hushing : Option ℕ) (listed : List ℕ) (questions : ℕ) : Type 0 where
    pub book : Listing rank top places m listed
    pub shape : Nested levels top r rs
    pub none_below : NoneAwakeBelow rank m r.lo
    pub spread : ℕ
    pub near : Near rank m spread (r ∷ rs)
    pub few : questions + length rs + 3 * spread ≤ 2 * length listed + 3 * (suc (length listed) * levels) + owed hushing
    pub due : Due rank m r listed hushing

  -- No range is pending any more.
  pub record Found (m : Meaning K) (listed : List ℕ) (questions : ℕ) : Type 0 where
    pub book : Listing rank top places m listed
    pub none_awake : (k : K) → is_awake m k ≡ false
    pub few : questions ≤ most listed

  -- A key was found beyond those that there are places for.
  pub record Overflows (m : Meaning K) (listed : List ℕ) (questions : ℕ) : Type 0 where
    pub ascends : Ascends listed
    pub full : length listed ≡ places
    pub within : AllByRecursion (λ j. j ≤ top) listed
    pub listed_fitted : (k : K) → is_in (rank k) listed ≡ true → is_fitted m k ≡ true
    pub extra : K
    pub extra_fitted : is_fitted m extra ≡ true
    pub extra_new : is_in (rank extra) listed ≡ false
    pub few : questions ≤ most listed

  abbrev pub StandsIn : Phase → List (Range ℕ) → Meaning K → Option ℕ → List ℕ → ℕ → Type 0
  StandsIn Walking [] m hushing listed questions = ⊥
  StandsIn Walking (r ∷ rs) m hushing listed questions = Walks m r rs hushing listed questions
  StandsIn Walked pending m hushing listed questions = Found m listed questions
  StandsIn Full pending m hushing listed questions = Overflows m listed questions
  StandsIn Laid pending m hushing listed questions = ⊥
  StandsIn Set pending m hushing listed questions = ⊥
  StandsIn Contradicted pending m hushing listed questions = ⊥

  abbrev pub Stands : Meaning K → Walk → Type 0
  Stands m w = StandsIn w.phase w.pending m w.hushing w.listed w.questions

  module _ (laws : Laws rank levels top) where
    wide_enough : (m : Meaning K) (rs : List (Range ℕ)) → AllByRecursion (λ s. s.hi ≤ top) rs → Near rank m levels rs
    wide_enough m rs within =
        let narrow = laws.narrow in
        All-weaker (λ s. s.hi ≤ top) (λ s. NoneAwakeBelow rank m s.lo → s.hi < s.lo + 2 ^ levels) (λ s le _. omega arith) rs within

    within_shape : (r : Range ℕ) (rs : List (Range ℕ)) → Nested levels top r rs → AllByRecursion (λ s. s.hi ≤ top) (r ∷ rs)
    within_shape r rs n =
        let next = begins_within n.own (suc r.hi) top rs n.behind in
        (omega arith, ends_within n.own (suc r.hi) top rs n.behind)

    -- At first.
    pub begins : (m : Meaning K) → Listing rank top places m [] → Walks m (record { lo = 0; hi = top }) [] None [] 0
    begins m book =
        let shape = nested_all levels top laws.narrow in
        record {
          book = book;
          shape = shape;
          none_below = λ k less. absurd (omega arith);
          spread = levels;
          near = wide_enough m (record { lo = 0; hi = top } ∷ []) (within_shape (record { lo = 0; hi = top }) [] shape);
          few = omega arith;
          due = tt;
        }

    module _ (m : Meaning K) (listed : List ℕ) (questions : ℕ) where
      -- The lowest range has no awake key: it is dropped.
      pub drops : (r s : Range ℕ) (rs : List (Range ℕ)) → Walks m r (s ∷ rs) None listed questions
          → NoneAwakeBelow rank m (suc r.hi)
          → Walks m s rs None listed (suc questions)
      drops r s rs w none =
          let begins : s.lo ≡ suc r.hi = w.shape.behind.0 in
          let few = w.few in
          record {
            book = w.book;
            shape = nested_next levels top r s rs w.shape;
            none_below = λ k less. none k (omega arith);
            spread = w.spread;
            near = w.near.1;
            few = omega arith;
            due = tt;
          }

      pub ends : (r : Range ℕ) → Walks m r [] None listed questions → NoneAwakeBelow rank m (suc r.hi) → Found m listed (suc questions)
      ends r w none =
          let last : suc r.hi ≡ suc top = w.shape.behind in
          let few = w.few in
          record { book = w.book; none_awake = λ k. none k (let le = laws.within k in omega arith); few = omega arith }

      -- The hush of a key of the range is next.
      pub hushes : (r : Range ℕ) (rs : List (Range ℕ)) (k : ℕ) → Walks m r rs None listed questions → Due rank m r listed (Some k)
          → Walks m r rs (Some k) listed (suc questions)
      hushes r rs k w due =
          let few = w.few in
          record {
            book = w.book;
            shape = w.shape;
            none_below = w.none_below;
            spread = w.spread;
            near = w.near;
            few = omega arith;
            due = due;
          }

      -- A range of several keys that was heard from is split.
      pub splits : (r : Range ℕ) (rs : List (Range ℕ)) (hushing : Option ℕ) → Walks m r rs hushing listed questions → r.lo < r.hi
          → (NoneAwakeBelow rank m (suc r.hi) → ⊥)
          → Walks m (lower_half r) (upper_half r ∷ rs) None listed (suc questions)
      splits r rs hushing w less loud = by w.spread refl
        where
          by : (e : ℕ) → w.spread ≡ e → Walks m (lower_half r) (upper_half r ∷ rs) None listed (suc questions)
          by zero e = absurd (let one : 2 ^ w.spread ≡ 1 = ap (λ x. 2 ^ x) e in let narrow = w.near.0 w.none_below in omega arith)
          by (suc e) is =
              let narrow : r.hi < r.lo + 2 ^ suc e = rw is at (w.near.0 w.none_below) in
              let few = w.few in
              let one_owed : owed hushing ≤ 1 = at_most_one hushing in
              record {
                book = w.book;
                shape = nested_halves levels top r rs w.shape less;
                none_below = w.none_below;
                spread = e;
                near = (λ _. omega arith, (λ _. omega arith, behind rs w.shape.own (suc r.hi) (omega arith) w.shape.behind));
                few = omega arith;
                due = tt;
              }
            where
              at_most_one : (o : Option ℕ) → owed o ≤ 1
              at_most_one None = omega arith
              at_most_one (Some k) = omega arith

              behind : (ss : List (Range ℕ)) (c low : ℕ) → suc r.hi ≤ low → NestedFrom c low top ss → Near rank m e ss
              behind [] c low le n = tt
              behind (s ∷ ss) c low le (begins, ordered, narrow, rest) = (
                λ none. absurd (loud (none_below_less rank m (suc r.hi) s.lo (omega arith) none)),
                behind ss (suc c) (suc s.hi) (omega arith) rest,
              )

      -- A key of the range answered its hush.
      module _ (r : Range ℕ) (rs : List (Range ℕ)) (k : K) (w : Walks m r rs (Some (rank k)) listed questions)
          (answered : hush_answer m k ≡ true) where
        module _ (free : length listed < places) where
          listing : Listing rank top places (hushed rank m k) (put_in (rank k) listed)
          listing = listing_more rank top places levels laws m listed w.book k answered w.due.2 free

          -- The range is probed again.
          pub lists : Walks (hushed rank m k) r rs None (put_in (rank k) listed) (suc questions)
          lists =
              let few = w.few in
              let longer = length-put_in (rank k) listed in
              record {
                book = listing;
                shape = w.shape;
                none_below = none_below_hushed rank m k r.lo w.none_below;
                spread = levels;
                near = wide_enough (hushed rank m k) (r ∷ rs) (within_shape r rs w.shape);
                few = rw longer (omega arith);
                due = tt;
              }

          -- It was the only key of its range.
          alone : r.lo ≡ r.hi → NoneAwakeBelow rank (hushed rank m k) (suc r.hi)
          alone one j less = by_place (cases_lt (rank j) r.lo)
            where
              by_place : (rank j < r.lo) ⊎ (r.lo ≤ rank j) → is_awake (hushed rank m k) j ≡ false
              by_place (inl below) = none_below_hushed rank m k r.lo w.none_below j below
              by_place (inr le) =
                  let at_or_above : r.lo ≤ rank k = w.due.0 in
                  let at_or_below : rank k ≤ r.hi = w.due.1 in
                  let is : rank j ≡ rank k = omega arith in
                  awake_hushed rank m k j ∙ ap (λ t. cond t false (is_awake m j)) (and_from _ _ answered (eq-eqb _ _ is))

        -- There is no place for it.
        pub overflows : places ≤ length listed → Overflows (hushed rank m k) listed (suc questions)
        overflows full =
            let few = w.few in
            let fits = w.book.fits in
            record {
              ascends = w.book.ascends;
              full = omega arith;
              within = w.book.within;
              listed_fitted = λ j is. fitted_hushed rank m k j ∙ w.book.listed_fitted j is;
              extra = k;
              extra_fitted = fitted_hushed rank m k k ∙ (and_parts m.live (is_fitted m k) answered).1;
              extra_new = w.due.2;
              few = omega arith;
            }

      -- The only key of its range is listed, and the range dropped.
      pub lists_and_drops : (r s : Range ℕ) (rs : List (Range ℕ)) (k : K) → Walks m r (s ∷ rs) (Some (rank k)) listed questions
          → hush_answer m k ≡ true
          → length listed < places
          → r.lo ≡ r.hi
          → Walks (hushed rank m k) s rs None (put_in (rank k) listed) (suc questions)
      lists_and_drops r s rs k w answered free one =
          let begins : s.lo ≡ suc r.hi = w.shape.behind.0 in
          let none = alone r (s ∷ rs) k w answered free one in
          let few = w.few in
          let longer = length-put_in (rank k) listed in
          record {
            book = listing r (s ∷ rs) k w answered free;
            shape = nested_next levels top r s rs w.shape;
            none_below = λ j less. none j (omega arith);
            spread = levels;
            near = wide_enough (hushed rank m k) (s ∷ rs) (within_shape r (s ∷ rs) w.shape).1;
            few = rw longer (omega arith);
            due = tt;
          }

      pub lists_and_ends : (r : Range ℕ) (k : K) → Walks m r [] (Some (rank k)) listed questions
          → hush_answer m k ≡ true
          → length listed < places
          → r.lo ≡ r.hi
          → Found (hushed rank m k) (put_in (rank k) listed) (suc questions)
      lists_and_ends r k w answered free one =
          let none = alone r [] k w answered free one in
          let last : suc r.hi ≡ suc top = w.shape.behind in
          let few = w.few in
          let longer = length-put_in (rank k) listed in
          record {
            book = listing r [] k w answered free;
            none_awake = λ j. none j (let le = laws.within j in omega arith);
            few = rw longer (omega arith);
          }
