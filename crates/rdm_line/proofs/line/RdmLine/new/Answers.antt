use Rattle.std.proofs.Common.{◌≡◌, true, cond, not, length, take, Some, None, Err, sym, refl, ap, ◌∙◌, subst, rules, arith}
use Rattle.refusals.specs.declared.Refusal.TheVariants.{AboveLimit, KeyTwice}
use Rattle.rdm_line.specs.Making.{NewTable}
use Rattle.rdm_line.proofs.Fitting.{delivered_apart, delivered_all_sound}
use Rattle.rdm_line.proofs.Makings.{mode_in_bounds, mode_above, too_many, one_unfit, above_limit, only_twice}
use Rattle.rdm_line.proofs.Tables.{muted_live}
use Rattle.rdm_line.proofs.line.RdmLine.new.Goals as goal

pub returns-in_err-mode : goal.returns-in_err-mode
returns-in_err-mode c =
    let keys = c.args.keys.now in
    let widths = c.args.widths.now in
    let refused : c.from_residual.result ≡ Err AboveLimit = search rules in
    rw refused (above_limit keys widths c.args.mode c.if-keys-widths.false (mode_above keys widths c.args.mode c.in_err-mode.ensures.0))

pub returns-then-keys-gt-PLACES : goal.returns-then-keys-gt-PLACES
returns-then-keys-gt-PLACES c =
    let keys = c.args.keys.now in
    let widths = c.args.widths.now in
    above_limit keys widths c.args.mode c.if-keys-widths.false (too_many keys widths c.args.mode c.if-keys-gt-PLACES.true)

pub returns-in_err-fixtures : goal.returns-in_err-fixtures
returns-in_err-fixtures c =
    let keys = c.args.keys.now in
    let widths = c.args.widths.now in
    let refused : c.from_residual-in_err-fixtures.result ≡ Err AboveLimit = search rules in
    let none : c.fit.result ≡ None = search rules in
    rw refused (above_limit keys widths c.args.mode c.if-keys-widths.false (one_unfit keys widths c.args.mode (subst (NewTable keys widths) none c.fit.ensures)))

pub returns-then-has_twice : goal.returns-then-has_twice
returns-then-has_twice c =
    let keys = c.args.keys.now in
    let widths = c.args.widths.now in
    let is : c.fit.result ≡ Some c.in_ok-fixtures.fixtures = search rules in
    let table : NewTable keys widths (Some c.in_ok-fixtures.fixtures) = subst (NewTable keys widths) is c.fit.ensures in
    only_twice keys widths c.args.mode c.if-keys-widths.false (omega (arith, mode_in_bounds c.in_ok-mode.mode, c.in_ok-mode.ensures)) c.if-keys-gt-PLACES.false table.0
    ∙ ap (λ t. cond (not (not t)) (Some KeyTwice) None) (sym c.has_twice.ensures ∙ c.if-has_twice.true)

pub invariant_of-result : goal.invariant_of-result
invariant_of-result c =
    let keys = c.args.keys.now in
    let widths = c.args.widths.now in
    let fixtures = c.in_ok-fixtures.fixtures in
    let is : c.fit.result ≡ Some fixtures = search rules in
    let table : NewTable keys widths (Some fixtures) = subst (NewTable keys widths) is c.fit.ensures in
    let fitted = take (length keys) fixtures in
    record {
      count_in_bounds = c.if-keys-gt-PLACES.false;
      no_key_twice = delivered_apart keys widths fitted table.1 (ap not (sym c.has_twice.ensures ∙ c.if-has_twice.false));
      fixtures_sound = delivered_all_sound keys widths fitted table.1 c.if-keys-widths.false table.0;
      muted_while_shut = muted_live true fitted refl;
    }

pub returns : goal.returns
returns c =
    let keys = c.args.keys.now in
    let widths = c.args.widths.now in
    let is : c.fit.result ≡ Some c.in_ok-fixtures.fixtures = search rules in
    let table : NewTable keys widths (Some c.in_ok-fixtures.fixtures) = subst (NewTable keys widths) is c.fit.ensures in (
      only_twice keys widths c.args.mode c.if-keys-widths.false (omega (arith, mode_in_bounds c.in_ok-mode.mode, c.in_ok-mode.ensures)) c.if-keys-gt-PLACES.false table.0
          ∙ ap (λ t. cond (not (not t)) (Some KeyTwice) None) (sym c.has_twice.ensures ∙ c.if-has_twice.false),
      record {
        fixtures_fresh = table.1;
        others_empty = table.2;
        all_counted = refl;
        mode_of_number = c.in_ok-mode.ensures;
        is_live = refl;
      },
    )
