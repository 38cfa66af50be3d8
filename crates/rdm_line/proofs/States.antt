-- What a line holds after each question.
use Rattle.std.proofs.Common.{◌≡◌, Bool, true, false, cond, ◌&&◌, ◌||◌, eqb, List, map, Some, None, Option, sym, refl, ap, ◌∙◌, map-id}
use Rattle.std.proofs.Math.Bool.{and-true, and-false}
use Rattle.std.proofs.lemmas.List.{take-append-drop}
use Rattle.std.specs.List.{list_all}
use Rattle.keys.specs.Address.{in_family}
use Rattle.keys.specs.declared.address.Address.{Address}
use Rattle.keys.specs.declared.range.Range.{Range}
use Rattle.keys.specs.declared.uid.Uid.{Uid}
use Rattle.refusals.specs.declared.Refusal.{Refusal}
use Rattle.refusals.specs.declared.Refusal.TheVariants.{AddressOutside}
use Rattle.rdm.specs.Question.{question_refusal}
use Rattle.rdm.specs.declared.question.Destination.TheVariants.{All, One}
use Rattle.rdm.specs.declared.question.Question.{Question}
use Rattle.rdm.specs.declared.question.Question.TheVariants.{Branch, Mute, UnMute, DeviceInfo, StartAddress}
use Rattle.rdm.specs.declared.reply.Reason.TheVariants.{UnknownPid, DataOutOfRange}
use Rattle.rdm.specs.declared.reply.Reply.{Reply}
use Rattle.rdm.specs.declared.reply.Reply.TheVariants.{AddressTaken, AddressRefused}
use Rattle.fixtures.specs.Reaction.{with_muted, with_address, moved}
use Rattle.fixtures.specs.declared.fixture.Fixture.{Fixture}
use Rattle.rdm_line.specs.Asking.{asked, line_asked}
use Rattle.rdm_line.specs.Effects.{at_key, moved_to, roused_state, rested_state, hushed_state, addressed_state}
use Rattle.rdm_line.specs.Means.{has_key}
use Rattle.rdm_line.specs.State.{State, fitted, with_fitted, with_live}
use Rattle.rdm_line.specs.Table.{is_muted, muted_unless}
use Rattle.rdm_line.proofs.Broadcast.{all_changed}
use Rattle.rdm_line.specs.Maps.{map_by, first_changed, cond_same}
use Rattle.rdm_line.proofs.Questions.{refused_table}
use Rattle.rdm_line.proofs.Tables.{all_muted}
use Rattle.rdm_line.proofs.Unicast.{one_changed}

module _ (s : State) where
  -- What a question changes.
  spoken_by : (q : Question) (change : List Fixture → List Fixture) → asked q (fitted s) ≡ change (fitted s)
      → line_asked q s ≡ cond s.live (with_fitted change s) s
  spoken_by q change same = ap (λ fs. cond s.live (with_fitted (λ _. fs) s) s) same

  -- A question that changes no fixture.
  unchanged : (q : Question) → asked q (fitted s) ≡ fitted s → line_asked q s ≡ s
  unchanged q same = spoken_by q (λ fs. fs) same ∙ ap (λ t. cond s.live t s) whole ∙ cond_same s.live s
    where
      whole : with_fitted (λ fs. fs) s ≡ s
      whole = ap (λ fs. record { places = fs; count = s.count; mode = s.mode; live = s.live }) (take-append-drop s.count s.places)

  pub rouses : line_asked (UnMute All) (with_live true s) ≡ roused_state s
  unfolding roused_state
  rouses = ap (λ fs. with_live true (with_fitted (λ _. fs) s)) (all_changed (UnMute All) refl refl (fitted s))

  pub rests : with_live false (line_asked (Mute All) s) ≡ rested_state s
  unfolding rested_state
  rests = ap (with_live false) (spoken_by (Mute All) (map (with_muted true)) (all_changed (Mute All) refl refl (fitted s))) ∙ by s.live refl
    where
      by : (live : Bool) → s.live ≡ live
          → with_live false (cond live (with_fitted (map (with_muted true)) s) s) ≡ cond live (with_live false (with_fitted (map (with_muted true)) s)) s
      by true e = refl
      by false e = ap (λ live. with_live live s) (sym e)

  -- Afterwards every fitted fixture is muted, so that the line can be shut.
  pub rests_muted : muted_unless s.live (fitted s) ≡ true → muted_unless false (fitted (line_asked (Mute All) s)) ≡ true
  unfolding muted_unless
  rests_muted before = ap (λ t. list_all is_muted (fitted t)) (spoken_by (Mute All) (map (with_muted true)) (all_changed (Mute All) refl refl (fitted s))) ∙ by s.live before
    where
      by : (live : Bool) → (live || list_all is_muted (fitted s)) ≡ true → list_all is_muted (fitted (cond live (with_fitted (map (with_muted true)) s) s)) ≡ true
      by true before = ap (list_all is_muted) (first_changed (with_muted true) s.count s.places) ∙ all_muted (fitted s)
      by false before = before

  pub hushes : (key : Uid) → line_asked (Mute (One key)) s ≡ hushed_state key s
  unfolding hushed_state
  hushes key = spoken_by (Mute (One key)) (map (at_key key (with_muted true))) (one_changed (Mute (One key)) key refl refl (fitted s))

  -- A question that tells something changes nothing.
  no_change : (fs : List Fixture) (key : Uid) → map (at_key key (λ f. f)) fs ≡ fs
  no_change fs key = map_by (at_key key (λ f. f)) (λ f. f) (λ f. cond_same (has_key key f) f) fs ∙ map-id fs

  pub queries : (key : Uid) → line_asked (DeviceInfo key) s ≡ s
  queries key = unchanged (DeviceInfo key) (one_changed (DeviceInfo key) key refl refl (fitted s) ∙ no_change (fitted s) key)

  pub probes : (range : Range Uid) → line_asked (Branch range) s ≡ s
  probes range = unchanged (Branch range) (by (question_refusal (Branch range)) refl)
    where
      by : (refusal : Option Refusal) → question_refusal (Branch range) ≡ refusal → asked (Branch range) (fitted s) ≡ fitted s
      by (Some refusal) e = sym (refused_table (Branch range) (fitted s) refusal e)
      by None e = all_changed (Branch range) refl e (fitted s) ∙ map-id (fitted s)

  -- The slots 1 to 512 are taken by every fixture that takes slots.
  taken : (a : Address) → in_family 1 512 a ≡ true → (f : Fixture) → (moved f a).0 ≡ moved_to a f
  taken a inside f = ap (λ t. (cond {A = Fixture × Reply} (eqb f.width 0) (f, AddressRefused UnknownPid) (cond t (with_address a f, AddressTaken) (f, AddressRefused DataOutOfRange))).0) inside ∙ by (eqb f.width 0)
    where
      by : (narrow : Bool) → (cond {A = Fixture × Reply} narrow (f, AddressRefused UnknownPid) (with_address a f, AddressTaken)).0 ≡ cond narrow f (with_address a f)
      by true = refl
      by false = refl

  pub sets : (key : Uid) (a : Address) → line_asked (StartAddress key a) s ≡ addressed_state key a s
  unfolding addressed_state
  sets key a = by (in_family 1 512 a) refl
    where
      by : (inside : Bool) → in_family 1 512 a ≡ inside
          → line_asked (StartAddress key a) s ≡ cond (s.live && inside) (with_fitted (map (at_key key (moved_to a))) s) s
      by true e =
          spoken_by (StartAddress key a) (map (at_key key (moved_to a)))
          (one_changed (StartAddress key a) key refl (rw e) (fitted s)
          ∙ map_by (at_key key (λ f. (moved f a).0)) (at_key key (moved_to a)) (λ f. ap (λ g. cond (has_key key f) g f) (taken a e f)) (fitted s))
          ∙ ap (λ t. cond t (with_fitted (map (at_key key (moved_to a))) s) s) (sym (and-true s.live))
      by false e =
          unchanged (StartAddress key a) (sym (refused_table (StartAddress key a) (fitted s) AddressOutside (rw e)))
          ∙ ap (λ t. cond t (with_fitted (map (at_key key (moved_to a))) s) s) (sym (and-false s.live))
