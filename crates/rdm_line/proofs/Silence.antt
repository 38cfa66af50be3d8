-- A probe is silent exactly if no key of the range is awake.
use Rattle.std.proofs.Common.{◌≡◌, ℕ, ◌≤◌, Bool, true, false, cond, not, ◌&&◌, leb, List, [], ◌∷◌, map, IfSome, Some, None, Ok, Err, filter, Option, Result, sym, refl, ap, ◌∙◌}
use Rattle.std.proofs.ByRecursion.{All-weaker}
use Rattle.std.proofs.lemmas.Bool.{both_ways, and_parts, and_from}
use Rattle.std.specs.Option.{option_map}
use Rattle.std.specs.List.{AllByRecursion}
use Rattle.keys.specs.Uid.{uid_rank, uid_number}
use Rattle.keys.specs.declared.range.Range.{Range}
use Rattle.keys.specs.declared.uid.Uid.{Uid}
use Rattle.refusals.specs.declared.Refusal.{Refusal}
use Rattle.fixtures.specs.declared.fixture.Fixture.{Fixture}
use Rattle.lines.specs.Meaning.{Fitted, Meaning, Sound, SoundFixture, awake_there, is_awake}
use Rattle.lines.specs.Rules.{Probed}
use Rattle.lines.specs.declared.answers.ProbeAnswer.{ProbeAnswer}
use Rattle.lines.specs.declared.answers.ProbeAnswer.TheVariants.{Silent, Clear, Garbled}
use Rattle.rdm_line.specs.Heard.{answer_number, read_as}
use Rattle.rdm_line.specs.Means.{has_key, fixture_at, seen, meaning_of}
use Rattle.rdm_line.specs.Probing.{calls_in, callers, heard_from, probe_answer}
use Rattle.rdm_line.specs.State.{State, fitted}
use Rattle.rdm_line.specs.Table.{number_of, keys_distinct}
use Rattle.rdm_line.specs.declared.mode.Mode.{Mode}
use Rattle.rdm_line.specs.declared.mode.Mode.TheVariants.{Garble, Or, And, Lowest}
use Rattle.rdm_line.specs.Finding.{found_key, each_found}
use Rattle.rdm_line.specs.Keys.{number_from_rank, rank_from_number}
use Rattle.rdm_line.specs.Meanings.{live_meaning}

-- Silence is heard from nobody.
read_speaks : (r : Result ℕ Refusal) → read_as r ≡ Silent → ⊥
read_speaks (Ok n) e = cc
read_speaks (Err refusal) e = cc

silent_from_nobody : (mode : Mode) (keys : List Uid) → heard_from mode keys ≡ Silent → keys ≡ []
unfolding heard_from
silent_from_nobody mode [] e = refl
silent_from_nobody Garble (key ∷ []) e = cc
silent_from_nobody Garble (key ∷ other ∷ others) e = cc
silent_from_nobody Or (key ∷ others) e = absurd (read_speaks _ e)
silent_from_nobody And (key ∷ others) e = absurd (read_speaks _ e)
silent_from_nobody Lowest (key ∷ others) e = cc

nobody_silent : (mode : Mode) → heard_from mode [] ≡ Silent
unfolding heard_from
nobody_silent mode = refl

silent_by_number : (r : ProbeAnswer Uid) → answer_number r ≡ Silent → r ≡ Silent
silent_by_number Silent e = refl
silent_by_number (Clear key) e = cc
silent_by_number Garbled e = cc

-- Nobody is kept by a test that all fail.
none_kept : (test : Fixture → Bool) (fs : List Fixture) → AllByRecursion (λ f. test f ≡ false) fs → filter test fs ≡ []
none_kept test [] fail = refl
none_kept test (f ∷ fs) (this, fail) = rw this (none_kept test fs fail)

-- Somebody is kept where what is found passes.
found_kept : (test : Fixture → Bool) (fs : List Fixture) (key : Uid) (f : Fixture) → fixture_at fs key ≡ Some f → test f ≡ true → filter test fs ≡ [] → ⊥
found_kept test [] key f is pass none = cc
found_kept test (g ∷ fs) key f is pass none = by (has_key key g) (test g) refl is none (found_kept test fs key f)
  where
    by : (here kept : Bool) → test g ≡ kept → cond here (Some g) (fixture_at fs key) ≡ Some f → cond kept (g ∷ filter test fs) (filter test fs) ≡ []
        → (fixture_at fs key ≡ Some f → test f ≡ true → filter test fs ≡ [] → ⊥)
        → ⊥
    by here true e found none later = cc
    by true false e found none later =
        let same : g ≡ f = cc in
        both_ways (test f) (ap test (sym same) ∙ e) pass
    by false false e found none later = later found pass none

keys_of_none : (fs : List Fixture) → map (λ f. f.key) fs ≡ [] → fs ≡ []
keys_of_none [] e = refl
keys_of_none (f ∷ fs) e = cc

-- A line with an awake key is live.
awake_live : (m : Meaning Uid) → Sound 1 512 m → (k : Uid) → is_awake m k ≡ true → m.live ≡ true
awake_live m sound k awake = by m.live refl (m.at k) (sound k) awake
  where
    by : (live : Bool) → m.live ≡ live → (o : Option Fitted) → IfSome o (SoundFixture 1 512 m.live) → awake_there o ≡ true → live ≡ true
    by true e o fine awake = refl
    by false e None fine awake = awake
    by false e (Some f) fine awake = sym (fine.asleep_while_shut e) ∙ awake

module _ (s : State) (range : Range Uid) where
  -- Whoever calls is awake, and not above the range.
  calls_awake : ((k : Uid) → uid_rank k ≤ uid_rank range.hi → is_awake (meaning_of s) k ≡ false)
      → (f : Fixture) → fixture_at (fitted s) f.key ≡ Some f → calls_in range f ≡ false
  unfolding meaning_of
  calls_awake none f itself = by (calls_in range f) refl
    where
      by : (answers : Bool) → calls_in range f ≡ answers → answers ≡ false
      by false e = refl
      by true e =
          let parts = and_parts (not f.muted) (leb (uid_number range.lo) (number_of f) && leb (number_of f) (uid_number range.hi)) e in
          let up_to_hi = (and_parts (leb (uid_number range.lo) (number_of f)) (leb (number_of f) (uid_number range.hi)) parts.1).1 in
          let asleep = none f.key (rank_from_number f.key range.hi up_to_hi) in
          let awake : awake_there (option_map seen (fixture_at (fitted s) f.key)) ≡ not f.muted = ap (λ o. awake_there (option_map seen o)) itself in
          absurd (both_ways (not f.muted) (sym awake ∙ asleep) parts.0)

  silent_if : keys_distinct (fitted s) ≡ true → ((k : Uid) → uid_rank k ≤ uid_rank range.hi → is_awake (meaning_of s) k ≡ false)
      → probe_answer s range ≡ Silent
  unfolding probe_answer
  silent_if apart none = by s.live
    where
      nobody : filter (calls_in range) (fitted s) ≡ []
      nobody =
          none_kept (calls_in range) (fitted s)
          (All-weaker (λ f. fixture_at (fitted s) f.key ≡ Some f) (λ f. calls_in range f ≡ false) (calls_awake none) (fitted s) (each_found (fitted s) apart))

      by : (live : Bool) → cond live (heard_from s.mode (callers range (fitted s))) Silent ≡ Silent
      by false = refl
      by true = ap (λ fs. heard_from s.mode (map (λ f. f.key) fs)) nobody ∙ nobody_silent s.mode

  -- An awake key of the range calls.
  awake_calls : (k : Uid) → uid_rank range.lo ≤ uid_rank k → uid_rank k ≤ uid_rank range.hi → is_awake (meaning_of s) k ≡ true
      → (f : Fixture) × (fixture_at (fitted s) k ≡ Some f) × (calls_in range f ≡ true)
  unfolding meaning_of
  awake_calls k above below awake = by (fixture_at (fitted s) k) refl (found_key (fitted s) k) awake
    where
      by : (o : Option Fixture) → fixture_at (fitted s) k ≡ o → IfSome o (λ f. uid_number k ≡ number_of f) → awake_there (option_map seen o) ≡ true
          → (f : Fixture) × (fixture_at (fitted s) k ≡ Some f) × (calls_in range f ≡ true)
      by None e key awake = absurd (both_ways false refl awake)
      by (Some f) e key awake = (
        f,
        e,
        and_from (not f.muted) (leb (uid_number range.lo) (number_of f) && leb (number_of f) (uid_number range.hi)) awake
            (and_from (leb (uid_number range.lo) (number_of f)) (leb (number_of f) (uid_number range.hi))
            (ap (λ n. leb (uid_number range.lo) n) (sym key) ∙ number_from_rank range.lo k above)
            (ap (λ n. leb n (uid_number range.hi)) (sym key) ∙ number_from_rank k range.hi below)),
      )

  speaks_if : Sound 1 512 (meaning_of s) → (k : Uid) → uid_rank range.lo ≤ uid_rank k → uid_rank k ≤ uid_rank range.hi
      → is_awake (meaning_of s) k ≡ true → probe_answer s range ≡ Silent → ⊥
  unfolding probe_answer
  speaks_if sound k above below awake silent =
      let caller = awake_calls k above below awake in
      let live : s.live ≡ true = live_meaning s ∙ awake_live (meaning_of s) sound k awake in
      let nobody = silent_from_nobody s.mode (callers range (fitted s)) (rw live at silent) in
      found_kept (calls_in range) (fitted s) k caller.0 caller.1 caller.2 (keys_of_none (filter (calls_in range) (fitted s)) nobody)

  pub probed : keys_distinct (fitted s) ≡ true → Sound 1 512 (meaning_of s) → (r : ProbeAnswer Uid) → answer_number r ≡ probe_answer s range
      → Probed uid_rank (meaning_of s) range r
  probed apart sound r exactly = record {
    silent_if_none_awake_up_to_hi = λ none. silent_by_number r (exactly ∙ silent_if apart none);
    not_silent_if_one_awake = λ k above below awake silent. speaks_if sound k above below awake (sym exactly ∙ ap answer_number silent);
  }
