-- What a change of every fixture leaves of a table.
use Rattle.std.proofs.Common.{◌≡◌, ℕ, ◌-◌, Bool, true, false, eqb, List, [], ◌∷◌, ◌++◌, map, take, drop, is_some, refl, ap, ◌∙◌, arith}
use native.Mathlib.Nat.{sub-zero}
use Rattle.std.specs.List.{list_all}
use Rattle.std.proofs.lemmas.List.{take-append-drop}
use Rattle.std.proofs.lemmas.Bool.{cond_both}
use Rattle.std.proofs.lemmas.Bool.Decides.{nat_tests}
use Rattle.keys.specs.Address.{in_family}
use Rattle.keys.specs.Uid.{uid_number}
use Rattle.keys.specs.declared.address.Address.{Address}
use Rattle.fixtures.proofs.Reactions.{reaction_keeps, reaction_key}
use Rattle.fixtures.specs.Reaction.{with_muted, with_address}
use Rattle.fixtures.specs.declared.fixture.Fixture.{Fixture}
use Rattle.rdm.specs.Question.{question_refusal}
use Rattle.rdm.specs.declared.question.Question.{Question}
use Rattle.lines.specs.Tables.{values_kept, all_kept}
use Rattle.rdm_line.specs.Asking.{frame_of, asked}
use Rattle.rdm_line.specs.Sending.{after}
use Rattle.rdm_line.specs.Maps.{first_changed}
use Rattle.rdm_line.specs.Table.{number_of, distinct, is_sound, is_muted, keys_distinct, all_sound, muted_unless}

-- Every frame leaves keys as they are, and sound fixtures sound.
address_sound : (f : Fixture) (a : Address) → eqb f.width 0 ≡ false → in_family 1 512 a ≡ true → is_sound f ≡ true → is_sound (with_address a f) ≡ true
address_sound f a wide inside sound = grind (arith, nat_tests)

after_sound : (frame : List ℕ) (f : Fixture) → is_sound f ≡ true → is_sound (after frame f) ≡ true
after_sound frame f sound =
    reaction_keeps (λ g. is_sound g ≡ true) f sound (λ muted. sound) (λ a wide inside. address_sound f a wide inside sound) frame

module _ (frame : List ℕ) (fs : List Fixture) where
  pub distinct_after : keys_distinct fs ≡ true → keys_distinct (map (after frame) fs) ≡ true
  unfolding keys_distinct
  distinct_after before = ap distinct (values_kept number_of (after frame) (λ f. ap uid_number (reaction_key f frame)) fs) ∙ before

  pub sound_after : all_sound fs ≡ true → all_sound (map (after frame) fs) ≡ true
  unfolding all_sound
  sound_after before = all_kept is_sound is_sound (after frame) (after_sound frame) fs before

-- The same of every question.
module _ (q : Question) (fs : List Fixture) where
  asked_is : (P : List Fixture → Type 0) → P fs → P (map (after (frame_of q)) fs) → P (asked q fs)
  unfolding asked
  asked_is P here there = cond_both (is_some (question_refusal q)) fs (map (after (frame_of q)) fs) P (λ _. here) (λ _. there)

-- The fitted fixtures are the first so many of the table, and those that were asked are put back into their places.
module _ (q : Question) (fs changed : List Fixture) (n : ℕ) (is : changed ≡ asked q (take (n - 0) fs)) where
  first_asked : take n (changed ++ drop (n - 0) fs) ≡ asked q (take n fs)
  first_asked =
      ap (λ gs. take n (gs ++ drop (n - 0) fs)) is
      ∙ ap (λ m. take n (asked q (take m fs) ++ drop m fs)) (sub-zero n)
      ∙ asked_is q (take n fs) (λ gs. take n (gs ++ drop n fs) ≡ gs) (ap (take n) (take-append-drop n fs)) (first_changed (after (frame_of q)) n fs)

  pub still_distinct : keys_distinct (take n fs) ≡ true → keys_distinct (take n (changed ++ drop (n - 0) fs)) ≡ true
  still_distinct before =
      ap keys_distinct first_asked ∙ asked_is q (take n fs) (λ gs. keys_distinct gs ≡ true) before (distinct_after (frame_of q) (take n fs) before)

  pub still_sound : all_sound (take n fs) ≡ true → all_sound (take n (changed ++ drop (n - 0) fs)) ≡ true
  still_sound before =
      ap all_sound first_asked ∙ asked_is q (take n fs) (λ gs. all_sound gs ≡ true) before (sound_after (frame_of q) (take n fs) before)

-- On a live line no fixture has to be muted.
pub muted_live : (live : Bool) (fs : List Fixture) → live ≡ true → muted_unless live fs ≡ true
unfolding muted_unless
muted_live live fs e = rw e

-- Once each is muted, all are.
pub all_muted : (fs : List Fixture) → list_all is_muted (map (with_muted true) fs) ≡ true
all_muted [] = refl
all_muted (f ∷ fs) = all_muted fs
