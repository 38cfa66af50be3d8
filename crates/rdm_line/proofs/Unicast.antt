-- Questions to one key: the fixture that has it obeys and replies, and no other does.
use Rattle.std.proofs.Common.{◌≡◌, ℕ, Bool, true, false, cond, eqb, List, [], ◌∷◌, map, Some, None, Option, refl, ap, ◌∙◌, arith}
use Rattle.std.proofs.lemmas.Bool.{eqb-true, or_parts, not-true}
use Rattle.std.specs.Option.{option_map}
use Rattle.keys.specs.Uid.{uid_number}
use Rattle.keys.specs.declared.uid.Uid.{Uid}
use Rattle.rdm.specs.Question.{question_refusal, destination_of, destination_number, asked_by, heard}
use Rattle.rdm.specs.Reply.{reply_frame}
use Rattle.rdm.specs.declared.question.Destination.TheVariants.{One}
use Rattle.rdm.specs.declared.question.Question.{Question}
use Rattle.fixtures.proofs.Reactions.{reaction_asked, reach_one}
use Rattle.fixtures.specs.Reach.{reach_of}
use Rattle.fixtures.specs.Reaction.{obeyed, reacted, reaction}
use Rattle.fixtures.specs.declared.fixture.Fixture.{Fixture}
use Rattle.fixtures.specs.declared.reach.Reach.TheVariants.{Unicast, NotAtAll}
use Rattle.lines.specs.Twice.{is_among, has_twice}
use Rattle.rdm_line.specs.Asking.{frame_of, asked, replies}
use Rattle.rdm_line.specs.Cable.{Signal, quiet, joined}
use Rattle.rdm_line.specs.Effects.{at_key}
use Rattle.rdm_line.specs.Means.{has_key, fixture_at}
use Rattle.rdm_line.specs.Sending.{spoken, reply_to, after, gathered}
use Rattle.rdm_line.specs.Table.{number_of, keys_distinct}
use Rattle.rdm_line.specs.declared.mode.Mode.{Mode}
use Rattle.rdm_line.proofs.Gathering.{joined_quiet}
use Rattle.rdm_line.specs.Maps.{map_by}
use Rattle.rdm_line.proofs.Questions.{sent_table, sent_signal}

-- The reply of a fixture that a question was sent to.
abbrev pub own_answer : Question → Fixture → Option (List ℕ)
own_answer q f = option_map (λ reply. reply_frame reply (heard q 0)) (obeyed f (asked_by q)).1

-- Of fixtures that answer only if they have a key, the one that has it is heard.
abbrev answers_if : Uid → (Fixture → Option (List ℕ)) → Fixture → Signal
answers_if key answer f = spoken f.key (cond (has_key key f) (answer f) None)

-- What is on the cable when the fixture that was found has answered.
abbrev pub answer_heard : (Fixture → Option (List ℕ)) → Option Fixture → Signal
answer_heard answer None = quiet
answer_heard answer (Some f) = spoken f.key (answer f)

module _ (mode : Mode) (key : Uid) (answer : Fixture → Option (List ℕ)) where
  others_quiet : (n : ℕ) → uid_number key ≡ n → (s : Signal) (fs : List Fixture) → is_among n (map number_of fs) ≡ false → gathered mode s (map (answers_if key answer) fs) ≡ s
  others_quiet n is s [] apart = refl
  others_quiet n is s (f ∷ fs) apart =
      let parts = or_parts (eqb n (number_of f)) (is_among n (map number_of fs)) apart in
      let other : has_key key f ≡ false = ap (λ m. eqb m (number_of f)) is ∙ parts.0 in
      ap (λ t. gathered mode (joined mode s (spoken f.key (cond t (answer f) None))) (map (answers_if key answer) fs)) other
      ∙ ap (λ t. gathered mode t (map (answers_if key answer) fs)) (joined_quiet mode s)
      ∙ others_quiet n is s fs parts.1

  one_heard : (fs : List Fixture) → has_twice (map number_of fs) ≡ false
      → gathered mode quiet (map (answers_if key answer) fs) ≡ answer_heard answer (fixture_at fs key)
  one_heard [] apart = refl
  one_heard (f ∷ fs) apart =
      let parts = or_parts (is_among (number_of f) (map number_of fs)) (has_twice (map number_of fs)) apart in
      by (has_key key f) refl parts.0 (one_heard fs parts.1)
    where
      by : (here : Bool) → has_key key f ≡ here → is_among (number_of f) (map number_of fs) ≡ false
          → gathered mode quiet (map (answers_if key answer) fs) ≡ answer_heard answer (fixture_at fs key)
          → gathered mode (spoken f.key (cond here (answer f) None)) (map (answers_if key answer) fs)
          ≡ answer_heard answer (cond here (Some f) (fixture_at fs key))
      by true e apart later = others_quiet (number_of f) (eqb-true (uid_number key) (number_of f) e) (spoken f.key (answer f)) fs apart
      by false e apart later = later

module _ (q : Question) (key : Uid) (to_one : destination_of q ≡ One key) (fine : question_refusal q ≡ None) where
  reaction_one : (f : Fixture) → reaction f (frame_of q) ≡ cond (has_key key f) ((obeyed f (asked_by q)).0, own_answer q f) (f, None)
  reaction_one f =
      reaction_asked f q 0 (omega arith) fine
      ∙ ap (λ d. reacted (reach_of f (destination_number d)) f (heard q 0)) to_one
      ∙ ap (λ reach. reacted reach f (heard q 0)) (reach_one f key)
      ∙ by (has_key key f)
    where
      by : (here : Bool) → reacted (cond here Unicast NotAtAll) f (heard q 0) ≡ cond here ((obeyed f (asked_by q)).0, own_answer q f) (f, None)
      by true = refl
      by false = refl

  changed_one : (f : Fixture) → after (frame_of q) f ≡ at_key key (λ g. (obeyed g (asked_by q)).0) f
  changed_one f = ap (λ r. r.0) (reaction_one f) ∙ by (has_key key f)
    where
      by : (here : Bool) → (cond {A = Fixture × Option (List ℕ)} here ((obeyed f (asked_by q)).0, own_answer q f) (f, None)).0 ≡ cond here (obeyed f (asked_by q)).0 f
      by true = refl
      by false = refl

  reply_one : (f : Fixture) → reply_to (frame_of q) f ≡ answers_if key (own_answer q) f
  reply_one f = ap (λ r. spoken f.key r.1) (reaction_one f) ∙ by (has_key key f)
    where
      by : (here : Bool) → spoken f.key (cond {A = Fixture × Option (List ℕ)} here ((obeyed f (asked_by q)).0, own_answer q f) (f, None)).1
          ≡ spoken f.key (cond here (own_answer q f) None)
      by true = refl
      by false = refl

  pub one_changed : (fs : List Fixture) → asked q fs ≡ map (at_key key (λ f. (obeyed f (asked_by q)).0)) fs
  one_changed fs = sent_table q fs fine ∙ map_by (after (frame_of q)) (at_key key (λ f. (obeyed f (asked_by q)).0)) changed_one fs

  pub one_replies : (mode : Mode) (fs : List Fixture) → keys_distinct fs ≡ true → replies mode q fs ≡ answer_heard (own_answer q) (fixture_at fs key)
  unfolding keys_distinct
  one_replies mode fs apart =
      sent_signal q fs mode fine
      ∙ ap (gathered mode quiet) (map_by (reply_to (frame_of q)) (answers_if key (own_answer q)) reply_one fs)
      ∙ one_heard mode key (own_answer q) fs (not-true (has_twice (map number_of fs)) apart)
