-- What a probe answers: which replies meet, and what they read as.
use Rattle.std.proofs.Common.{◌≡◌, ℕ, ◌<◌, Bool, true, false, cond, not, ltb, List, [], ◌∷◌, map, Some, None, filter, sym, refl, ap, ◌∙◌, ⊎_elim, arith}
use lib.Bits.{bit_and, bit_or}
use Rattle.std.proofs.lemmas.Bool.{ltb-true, and_right, cases_Bool}
use Rattle.std.proofs.lemmas.Bool.Decides.{nat_tests}
use Rattle.keys.specs.Uid.{uid_number}
use Rattle.keys.specs.declared.range.Range.{Range}
use Rattle.keys.specs.declared.uid.Uid.{Uid}
use Rattle.refusals.specs.declared.Refusal.TheVariants.{LowerAboveUpper}
use Rattle.rdm.specs.Question.{asked_by}
use Rattle.rdm.specs.declared.question.Question.TheVariants.{Branch}
use Rattle.branch.proofs.BranchReadBack.{branch_reads_back}
use Rattle.branch.specs.BranchReply.{branch_read}
use Rattle.branch.specs.Overlaid.{overlaid}
use Rattle.fixtures.specs.Reaction.{called}
use Rattle.fixtures.specs.declared.fixture.Fixture.{Fixture}
use Rattle.lines.specs.declared.answers.ProbeAnswer.TheVariants.{Silent, Clear}
use Rattle.rdm_line.specs.Asking.{replies, line_replies}
use Rattle.rdm_line.specs.Cable.{Signal, quiet, carrying, noise, lower, collided, joined}
use Rattle.rdm_line.specs.Heard.{read_as, branch_heard}
use Rattle.rdm_line.specs.Probing.{calls_in, callers, own_reply, overlapped, lowest, heard_from, probe_answer}
use Rattle.rdm_line.specs.Sending.{spoken, gathered}
use Rattle.rdm_line.specs.State.{State, fitted}
use Rattle.rdm_line.specs.declared.mode.Mode.{Mode}
use Rattle.rdm_line.specs.declared.mode.Mode.TheVariants.{Garble, Or, And, Lowest}
use Rattle.rdm_line.proofs.Broadcast.{all_replies}
use Rattle.rdm_line.proofs.Gathering.{joined_quiet}
use Rattle.rdm_line.proofs.Questions.{refused_signal}

-- What a key puts on the cable that replies to a branch.
abbrev calling : Uid → Signal
calling key = carrying (own_reply key) key

-- One key alone is read as it stands.
one_read : (key : Uid) → read_as (branch_read (own_reply key)) ≡ Clear (uid_number key)
one_read key = ap read_as (branch_reads_back (uid_number key) 0 key.key (omega arith))

-- What a fixture puts there.
abbrev on_branch : Range Uid → Fixture → Signal
on_branch range f = spoken f.key (called f (asked_by (Branch range)))

-- Only those that answer count.
gathered_callers : (mode : Mode) (range : Range Uid) (s : Signal) (fs : List Fixture)
    → gathered mode s (map (on_branch range) fs) ≡ gathered mode s (map calling (callers range fs))
gathered_callers mode range s [] = refl
gathered_callers mode range s (f ∷ fs) =
    by (calls_in range f) (gathered_callers mode range s fs) (gathered_callers mode range (joined mode s (calling f.key)) fs)
  where
    by : (answers : Bool)
        → gathered mode s (map (on_branch range) fs) ≡ gathered mode s (map calling (callers range fs))
        → gathered mode (joined mode s (calling f.key)) (map (on_branch range) fs)
        ≡ gathered mode (joined mode s (calling f.key)) (map calling (callers range fs))
        → gathered mode (joined mode s (spoken f.key (cond answers (Some (own_reply f.key)) None))) (map (on_branch range) fs)
        ≡ gathered mode s (map calling (map (λ g. g.key) (cond answers (f ∷ filter (calls_in range) fs) (filter (calls_in range) fs))))
    by true without with = with
    by false without with = ap (λ t. gathered mode t (map (on_branch range) fs)) (joined_quiet mode s) ∙ without

-- Noise stays noise.
noise_stays : (mode : Mode) (keys : List Uid) → gathered mode noise (map calling keys) ≡ noise
noise_stays mode [] = refl
noise_stays mode (key ∷ keys) = noise_stays mode keys

-- Bits of all replies together, in a mode that joins bits.
gathered_bits : (mode : Mode) (join : ℕ → ℕ → ℕ) → ((a b : List ℕ) (x y : Uid) → collided mode a x b y ≡ carrying (overlaid join a b) (lower x y))
    → (bytes : List ℕ) (key : Uid) (keys : List Uid)
    → gathered mode (carrying bytes key) (map calling keys) ≡ carrying (overlapped join bytes keys) (lowest key keys)
gathered_bits mode join joins bytes key [] = refl
gathered_bits mode join joins bytes key (other ∷ others) =
    ap (λ s. gathered mode s (map calling others)) (joins bytes (own_reply other) key other)
    ∙ gathered_bits mode join joins (overlaid join bytes (own_reply other)) (lower key other) others

-- The lowest key as if it were alone.
lower_calls : (x y : Uid) → joined Lowest (calling x) (calling y) ≡ calling (lower x y)
lower_calls x y = by (ltb (uid_number y) (uid_number x))
  where
    by : (below : Bool) → cond below (calling y) (calling x) ≡ calling (cond below y x)
    by true = refl
    by false = refl

gathered_lowest : (key : Uid) (keys : List Uid) → gathered Lowest (calling key) (map calling keys) ≡ calling (lowest key keys)
gathered_lowest key [] = refl
gathered_lowest key (other ∷ others) =
    ap (λ s. gathered Lowest s (map calling others)) (lower_calls key other) ∙ gathered_lowest (lower key other) others

-- What is read where these keys reply.
callers_read : (mode : Mode) (keys : List Uid) → branch_heard (gathered mode quiet (map calling keys)) ≡ heard_from mode keys
unfolding heard_from
callers_read mode [] = refl
callers_read Garble (key ∷ []) = one_read key
callers_read Garble (key ∷ other ∷ others) = ap branch_heard (noise_stays Garble others)
callers_read Or (key ∷ others) = ap branch_heard (gathered_bits Or bit_or (λ a b x y. refl) (own_reply key) key others)
callers_read And (key ∷ others) = ap branch_heard (gathered_bits And bit_and (λ a b x y. refl) (own_reply key) key others)
callers_read Lowest (key ∷ others) = ap branch_heard (gathered_lowest key others) ∙ one_read (lowest key others)

-- Nobody is in a range whose lower end is above its upper end.
none_above : (range : Range Uid) → uid_number range.hi < uid_number range.lo → (fs : List Fixture) → filter (calls_in range) fs ≡ []
none_above range above [] = refl
none_above range above (f ∷ fs) = rw (outside f) (none_above range above fs)
  where
    outside : (f : Fixture) → calls_in range f ≡ false
    outside f = and_right (not f.muted) _ (grind (arith, nat_tests))

pub probe_heard : (s : State) (range : Range Uid) → branch_heard (line_replies (Branch range) s) ≡ probe_answer s range
unfolding probe_answer heard_from
probe_heard s range = by s.live
  where
    refused : ltb (uid_number range.hi) (uid_number range.lo) ≡ true → branch_heard (replies s.mode (Branch range) (fitted s)) ≡ heard_from s.mode (callers range (fitted s))
    refused above =
        ap branch_heard (sym (refused_signal (Branch range) (fitted s) s.mode LowerAboveUpper (rw above)))
        ∙ ap (λ fs. heard_from s.mode (map (λ f. f.key) fs)) (sym (none_above range (ltb-true (uid_number range.hi) (uid_number range.lo) above) (fitted s)))

    sent : ltb (uid_number range.hi) (uid_number range.lo) ≡ false → branch_heard (replies s.mode (Branch range) (fitted s)) ≡ heard_from s.mode (callers range (fitted s))
    sent within =
        ap branch_heard (all_replies (Branch range) refl (rw within) s.mode (fitted s) ∙ gathered_callers s.mode range quiet (fitted s))
        ∙ callers_read s.mode (callers range (fitted s))

    by : (live : Bool) → branch_heard (cond live (replies s.mode (Branch range) (fitted s)) quiet) ≡ cond live (heard_from s.mode (callers range (fitted s))) Silent
    by false = refl
    by true = ⊎_elim refused sent (cases_Bool (ltb (uid_number range.hi) (uid_number range.lo)))
