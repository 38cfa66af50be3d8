-- No two DALI frames have the same bytes: each is made again from its own.
use Rattle.std.proofs.Common.{◌≡◌, ℕ, ◌/◌, ◌<◌, Bool, true, false, cond, eqb, ltb, List, [], ◌∷◌, sym, refl, ap, ◌∙◌, arith}
use mathlib.Core.Bool.{Bool-set}
use mathlib.Core.HLevel.{is_prop→PathP}
use native.Mathlib.Bridge.{le_prop}
use Rattle.std.proofs.lemmas.Bool.{ltb-true, lt-ltb}
use Rattle.std.proofs.lemmas.Bool.Decides.{nat_tests}
use Rattle.dali.specs.Codes.{named}
use Rattle.dali.specs.Frame.{frame_bytes}
use Rattle.dali.specs.ShortAddress.{short_byte}
use Rattle.dali.specs.declared.frame.Frame.{Frame}
use Rattle.dali.specs.declared.frame.Frame.TheVariants.{Terminate, Initialise, Compare, Withdraw, QueryShortAddress, SearchHigh, SearchMiddle, SearchLow, Program, Delete, Other}
use Rattle.dali.specs.declared.other_frame.OtherFrame.{OtherFrame}
use Rattle.dali.specs.declared.short_address.ShortAddress.{ShortAddress}

pub same_short : (x y : ShortAddress) → x.value ≡ y.value → x ≡ y
same_short x y e =
    λ i. record { value = e i; narrow = is_prop→PathP (λ j. e j < 64) (λ j. le_prop) x.narrow y.narrow i }

abbrev program_at : (b : ℕ) (t : Bool) → ltb b 128 ≡ t → Frame
program_at b true e = Program (record { value = b / 2; narrow = omega (arith, ltb-true b 128 e) })
program_at b false e = Delete

abbrev named_at : ℕ → ℕ → Frame
named_at a b =
    cond (eqb a 0xA1) Terminate
    (cond (eqb a 0xA5) Initialise
    (cond (eqb a 0xA9) Compare
    (cond (eqb a 0xAB) Withdraw
    (cond (eqb a 0xBB) QueryShortAddress
    (cond (eqb a 0xB1) (SearchHigh b)
    (cond (eqb a 0xB3) (SearchMiddle b)
    (cond (eqb a 0xB5) (SearchLow b) (program_at b (ltb b 128) refl))))))))

abbrev frame_by : (a b : ℕ) (t : Bool) → named a b ≡ t → Frame
frame_by a b true e = named_at a b
frame_by a b false e = Other (record { first = a; second = b; other = e })

abbrev frame_of : List ℕ → Frame
frame_of [] = Delete
frame_of (a ∷ []) = Delete
frame_of (a ∷ b ∷ []) = frame_by a b (named a b) refl
frame_of (a ∷ b ∷ c ∷ more) = Delete

program_made : (a : ShortAddress) (t : Bool) (e : ltb (short_byte a) 128 ≡ t) → t ≡ true → program_at (short_byte a) t e ≡ Program a
program_made a true e _ = ap Program (same_short _ a (omega arith))
program_made a false e is = absurd (let z : ◌≡◌ {A = ℕ} 0 1 = cc in omega arith)

named_made : (a b : ℕ) (t : Bool) (e : named a b ≡ t) → t ≡ true → frame_by a b t e ≡ named_at a b
named_made a b true e _ = refl
named_made a b false e is = absurd (let z : ◌≡◌ {A = ℕ} 0 1 = cc in omega arith)

other_made : (f : OtherFrame) (t : Bool) (e : named f.first f.second ≡ t) → t ≡ false → frame_by f.first f.second t e ≡ Other f
other_made f false e _ = λ i. Other (record { first = f.first; second = f.second; other = Bool-set _ _ e f.other i })
other_made f true e is = absurd (let z : ◌≡◌ {A = ℕ} 0 1 = cc in omega arith)

made_again : (f : Frame) → frame_of (frame_bytes f) ≡ f
made_again Terminate = refl
made_again Initialise = refl
made_again Compare = refl
made_again Withdraw = refl
made_again QueryShortAddress = refl
made_again (SearchHigh b) = refl
made_again (SearchMiddle b) = refl
made_again (SearchLow b) = refl
made_again (Program a) =
    let is : named 0xB7 (short_byte a) ≡ true = grind (arith, nat_tests) in
    named_made 0xB7 (short_byte a) _ refl is ∙ program_made a _ refl (lt-ltb (short_byte a) 128 (omega arith))
made_again Delete = refl
made_again (Other f) = other_made f _ refl f.other

pub same_frame : (f g : Frame) → frame_bytes f ≡ frame_bytes g → f ≡ g
same_frame f g e = sym (made_again f) ∙ ap frame_of e ∙ made_again g
