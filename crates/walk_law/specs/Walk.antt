-- The walk, over the ranks of keys: what it asks, and what an answer makes of it.
use Rattle.std.specs.Prelude.{ℕ, suc, ◌+◌, ◌/◌, ◌^◌, Bool, true, false, cond, not, ◌&&◌, List, [], ◌∷◌, length, Some, None, Ok, Err, Option, Result, nat_le, nat_lt}
use Rattle.keys.specs.declared.range.Range.{Range}
use Rattle.lines.specs.declared.answers.ProbeAnswer.{ProbeAnswer}
use Rattle.lines.specs.declared.answers.ProbeAnswer.TheVariants.{Silent, Clear, Garbled}
use Rattle.refusals.specs.declared.Refusal.{Refusal}
use Rattle.refusals.specs.declared.Refusal.TheVariants.{WrongPhase, QuestionsSpent, OtherKind, BookFull, Contradicted as SaysContradicted}
use Rattle.walk_law.specs.Ranks.{is_in, put_in}
use Rattle.walk_law.specs.declared.phase.Phase.{Phase}
use Rattle.walk_law.specs.declared.phase.Phase.TheVariants.{Walking, Walked, Laid, Set, Full, Contradicted}
use Rattle.walk_law.specs.declared.question.Answer.{Answer}
use Rattle.walk_law.specs.declared.question.Answer.TheVariants as answer
use Rattle.walk_law.specs.declared.question.Question.{Question}
use Rattle.walk_law.specs.declared.question.Question.TheVariants as question

-- A walk with the keys that its book lists, all by their ranks.
pub record Walk : Type 0 where
  pub phase : Phase
  -- The ranges that are still to be asked about, lowest first.
  pub pending : List (Range ℕ)
  -- The key whose hush is next, if one is; otherwise the lowest pending range is probed.
  pub hushing : Option ℕ
  pub listed : List ℕ
  -- How many answers this walk has heard.
  pub questions : ℕ

-- A walking walk: its lowest pending range, and those behind it.
abbrev pub walking : Range ℕ → List (Range ℕ) → Option ℕ → List ℕ → ℕ → Walk
walking r rs hushing listed questions = record {
  phase = Walking;
  pending = r ∷ rs;
  hushing = hushing;
  listed = listed;
  questions = questions;
}

-- At first all keys, up to the highest rank, are one pending range.
abbrev pub begun : ℕ → Walk
begun top = record {
  phase = Walking;
  pending = record { lo = 0; hi = top } ∷ [];
  hushing = None;
  listed = [];
  questions = 0;
}

abbrev pub asked_in : Phase → List (Range ℕ) → Option ℕ → Option (Question ℕ)
asked_in Walking [] hushing = None
asked_in Walking (r ∷ rs) (Some k) = Some (question.Hush k)
asked_in Walking (r ∷ rs) None = Some (question.Probe r)
asked_in Walked pending hushing = None
asked_in Laid pending hushing = None
asked_in Set pending hushing = None
asked_in Full pending hushing = None
asked_in Contradicted pending hushing = None

-- What is asked next; nothing outside walking.
abbrev pub asked : Walk → Option (Question ℕ)
asked w = asked_in w.phase w.pending w.hushing

abbrev pub lower_half : Range ℕ → Range ℕ
lower_half r = record { lo = r.lo; hi = (r.lo + r.hi) / 2 }

abbrev pub upper_half : Range ℕ → Range ℕ
upper_half r = record { lo = (r.lo + r.hi) / 2 + 1; hi = r.hi }

-- Walking while a range is pending.
abbrev pub phase_over : List (Range ℕ) → Phase
phase_over [] = Walked
phase_over (r ∷ rs) = Walking

-- The walk goes on with these ranges pending, and this hush or a probe next.
abbrev pub going_on : List (Range ℕ) → Option ℕ → List ℕ → ℕ → Walk
going_on pending hushing listed questions = record {
  phase = phase_over pending;
  pending = pending;
  hushing = hushing;
  listed = listed;
  questions = questions;
}

-- The walk stands still in a phase that it does not leave.
abbrev pub ended : Phase → Walk → Walk
ended phase w = record {
  phase = phase;
  pending = w.pending;
  hushing = w.hushing;
  listed = w.listed;
  questions = suc w.questions;
}

-- A range without two halves: its lower end is not below its upper end, so that they are the same key.
abbrev pub is_one : Range ℕ → Bool
is_one r = nat_le r.hi r.lo

abbrev pub in_range : ℕ → Range ℕ → Bool
in_range k r = nat_le r.lo k && nat_le k r.hi

-- Both halves are pending.
abbrev pub split_off : Range ℕ → List (Range ℕ) → Walk → Walk
split_off r rs w = going_on (lower_half r ∷ upper_half r ∷ rs) None w.listed (suc w.questions)

-- The range stays pending, and the hush of a key of it is next.
abbrev pub hush_next : ℕ → Walk → Walk
hush_next k w = going_on w.pending (Some k) w.listed (suc w.questions)

-- The range was heard from; it is dropped, or probed again.
abbrev pub dropped : List (Range ℕ) → List ℕ → Walk → Walk
dropped rs listed w = going_on rs None listed (suc w.questions)

-- What an answer to a probe of the lowest pending range makes of the walk.
abbrev pub after_probe : Range ℕ → List (Range ℕ) → ProbeAnswer ℕ → Walk → Walk
after_probe r rs Silent w = dropped rs w.listed w
after_probe r rs (Clear k) w =
    cond (is_one r) (hush_next r.lo w)
    (cond (in_range k r && not (is_in k w.listed)) (hush_next k w) (split_off r rs w))
after_probe r rs Garbled w = cond (is_one r) (hush_next r.lo w) (split_off r rs w)

-- What an answer to a hush makes of the walk, with so many places in the book.
abbrev pub after_yes : ℕ → ℕ → Range ℕ → List (Range ℕ) → Walk → Walk
after_yes places k r rs w =
    cond (is_in k w.listed) (ended Contradicted w)
    (cond (nat_lt (length w.listed) places) (dropped (cond (is_one r) rs (r ∷ rs)) (put_in k w.listed) w) (ended Full w))

abbrev pub after_no : Range ℕ → List (Range ℕ) → Walk → Walk
after_no r rs w = cond (is_one r) (ended Contradicted w) (split_off r rs w)

abbrev pub after_hush : ℕ → ℕ → Range ℕ → List (Range ℕ) → Bool → Walk → Walk
after_hush places k r rs true w = after_yes places k r rs w
after_hush places k r rs false w = after_no r rs w

-- What an answer makes of the walk; nothing if it is refused.
abbrev pub after_answer : ℕ → List (Range ℕ) → Option ℕ → Answer ℕ → Walk → Walk
after_answer places [] hushing a w = w
after_answer places (r ∷ rs) None (answer.Probe p) w = after_probe r rs p w
after_answer places (r ∷ rs) None (answer.Hush replied) w = w
after_answer places (r ∷ rs) (Some k) (answer.Probe p) w = w
after_answer places (r ∷ rs) (Some k) (answer.Hush replied) w = after_hush places k r rs replied w

-- Whether an answer is of the kind of the question that is next.
abbrev pub is_other_kind : Option ℕ → Answer ℕ → Bool
is_other_kind None (answer.Probe p) = false
is_other_kind None (answer.Hush replied) = true
is_other_kind (Some k) (answer.Probe p) = true
is_other_kind (Some k) (answer.Hush replied) = false

-- An answer that is not heard, and why: outside walking, when no more questions are counted, or of the other kind.
abbrev pub refusal_in : Phase → ℕ → Option ℕ → Answer ℕ → Option Refusal
refusal_in Walking questions hushing a =
    cond (nat_le (2 ^ 24) questions) (Some QuestionsSpent) (cond (is_other_kind hushing a) (Some OtherKind) None)
refusal_in Walked questions hushing a = Some WrongPhase
refusal_in Laid questions hushing a = Some WrongPhase
refusal_in Set questions hushing a = Some WrongPhase
refusal_in Full questions hushing a = Some WrongPhase
refusal_in Contradicted questions hushing a = Some WrongPhase

abbrev pub refusal_of : Walk → Answer ℕ → Option Refusal
refusal_of w a = refusal_in w.phase w.questions w.hushing a

abbrev pub unless_refused : Option Refusal → Walk → Walk → Walk
unless_refused (Some refusal) before after = before
unless_refused None before after = after

-- The walk after an answer, in a book with so many places, by the rules alone.
unfoldable pub heard_by_rules : ℕ → Walk → Answer ℕ → Walk
heard_by_rules places w a = unless_refused (refusal_of w a) w (after_answer places w.pending w.hushing a w)

-- There is memory for 49 pending ranges. A walk that needed more would end as contradicted, but none does: that the memory
-- suffices, whatever is answered, is a part of the law.
abbrev pub most_pending : ℕ
most_pending = 49

abbrev pub in_memory : Walk → Walk → Walk
in_memory before after = cond (nat_le (length after.pending) most_pending) after (ended Contradicted before)

-- The walk after an answer.
unfoldable pub heard : ℕ → Walk → Answer ℕ → Walk
heard places w a = unless_refused (refusal_of w a) w (in_memory w (after_answer places w.pending w.hushing a w))

-- A walk that has ended as full or contradicted says so in place of an answer.
abbrev pub told : Phase → Result (Unit {0}) Refusal
told Walking = Ok tt
told Walked = Ok tt
told Laid = Ok tt
told Set = Ok tt
told Full = Err BookFull
told Contradicted = Err SaysContradicted

abbrev pub told_unless : Option Refusal → Phase → Result (Unit {0}) Refusal
told_unless (Some refusal) phase = Err refusal
told_unless None phase = told phase

-- What is answered to whoever brings an answer.
unfoldable pub hearing_told : ℕ → Walk → Answer ℕ → Result (Unit {0}) Refusal
hearing_told places w a = told_unless (refusal_of w a) (heard places w a).phase
