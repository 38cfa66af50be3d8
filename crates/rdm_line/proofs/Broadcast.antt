-- Questions to all: every fixture obeys, and replies to nothing but a branch.
use Rattle.std.proofs.Common.{◌≡◌, List, map, None, ap, ◌∙◌, arith}
use Rattle.rdm.specs.Question.{question_refusal, destination_of, destination_number, asked_by, heard}
use Rattle.rdm.specs.declared.question.Destination.TheVariants.{All}
use Rattle.rdm.specs.declared.question.Question.{Question}
use Rattle.fixtures.proofs.Reactions.{reaction_asked}
use Rattle.fixtures.specs.Reach.{reach_of}
use Rattle.fixtures.specs.Reaction.{obeyed, called, reacted, reaction}
use Rattle.fixtures.specs.declared.fixture.Fixture.{Fixture}
use Rattle.rdm_line.specs.Asking.{frame_of, asked, replies}
use Rattle.rdm_line.specs.Cable.{quiet}
use Rattle.rdm_line.specs.Sending.{spoken, reply_to, after, gathered}
use Rattle.rdm_line.specs.declared.mode.Mode.{Mode}
use Rattle.rdm_line.specs.Maps.{map_by}
use Rattle.rdm_line.proofs.Questions.{sent_table, sent_signal}

module _ (q : Question) (to_all : destination_of q ≡ All) (fine : question_refusal q ≡ None) where
  reaction_all : (f : Fixture) → reaction f (frame_of q) ≡ ((obeyed f (asked_by q)).0, called f (asked_by q))
  reaction_all f =
      reaction_asked f q 0 (omega arith) fine ∙ ap (λ d. reacted (reach_of f (destination_number d)) f (heard q 0)) to_all

  pub all_changed : (fs : List Fixture) → asked q fs ≡ map (λ f. (obeyed f (asked_by q)).0) fs
  all_changed fs =
      sent_table q fs fine ∙ map_by (after (frame_of q)) (λ f. (obeyed f (asked_by q)).0) (λ f. ap (λ r. r.0) (reaction_all f)) fs

  pub all_replies : (mode : Mode) (fs : List Fixture)
      → replies mode q fs ≡ gathered mode quiet (map (λ f. spoken f.key (called f (asked_by q))) fs)
  all_replies mode fs =
      sent_signal q fs mode fine
      ∙ ap (gathered mode quiet)
      (map_by (reply_to (frame_of q)) (λ f. spoken f.key (called f (asked_by q))) (λ f. ap (λ r. spoken f.key r.1) (reaction_all f)) fs)
