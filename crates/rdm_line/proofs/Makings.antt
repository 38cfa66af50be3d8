-- What a making refuses.
use Rattle.std.proofs.Common.{◌≡◌, ℕ, ◌<◌, ◌≤◌, true, false, cond, not, leb, List, length, Some, None, arith}
use Rattle.std.proofs.lemmas.Bool.{eq-eqb, lt-leb, le-leb, and_left, and_right}
use Rattle.refusals.specs.declared.Refusal.TheVariants.{AboveLimit, KeyTwice}
use Rattle.rdm_line.specs.Making.{each_fits, within_limits, making_refusal}
use Rattle.rdm_line.specs.Mode.{mode_number}
use Rattle.rdm_line.specs.Table.{distinct}
use Rattle.rdm_line.specs.declared.mode.Mode.{Mode}
use Rattle.rdm_line.specs.declared.mode.Mode.TheVariants.{Garble, Or, And, Lowest}

pub mode_in_bounds : (mode : Mode) → mode_number mode ≤ 3
mode_in_bounds Garble = omega arith
mode_in_bounds Or = omega arith
mode_in_bounds And = omega arith
mode_in_bounds Lowest = omega arith

module _ (keys widths : List ℕ) (mode : ℕ) where
  pub mode_above : 3 < mode → within_limits keys widths mode ≡ false
  unfolding within_limits
  mode_above h = and_left (leb mode 3) _ (lt-leb mode 3 h)

  pub too_many : 128 < length keys → within_limits keys widths mode ≡ false
  unfolding within_limits
  too_many h = and_right (leb mode 3) _ (and_left (leb (length keys) 128) (each_fits keys widths) (lt-leb (length keys) 128 h))

  pub one_unfit : each_fits keys widths ≡ false → within_limits keys widths mode ≡ false
  unfolding within_limits
  one_unfit h = and_right (leb mode 3) _ (and_right (leb (length keys) 128) (each_fits keys widths) h)

  module _ (as_many : length keys ≡ length widths) where
    pub above_limit : within_limits keys widths mode ≡ false → making_refusal keys widths mode ≡ Some AboveLimit
    above_limit h = rw (eq-eqb (length keys) (length widths) as_many, h)

    -- Within the limits, only a key twice is refused.
    pub only_twice : mode ≤ 3 → length keys ≤ 128 → each_fits keys widths ≡ true → making_refusal keys widths mode ≡ cond (not (distinct keys)) (Some KeyTwice) None
    unfolding within_limits
    only_twice low few fits = rw (eq-eqb (length keys) (length widths) as_many, le-leb mode 3 low, le-leb (length keys) 128 few, fits)
