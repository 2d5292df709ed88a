-- `reader::read_header` meets its contract.
use mathlib.Core.Path.{sym, ap, ◌∙◌}
use native.Mathlib.Omega.{arith}
use lib.ListN.{length}
use borrow.Author.Tests.{lt-ltb, le-ltb}
use Rattle.std.proofs.lemmas.Result.{err_from_is_err_and}
use Rattle.sheet.specs.Header.{header_of, version_ok}
use Rattle.reader.proofs.read_header.Goals as goal

pub returns-then-s-lt8 : goal.returns-then-s-lt8
unfolding header_of
returns-then-s-lt8 c = simp (lt-ltb _ _ c.if-s-lt8.true)

pub returns-then-not-has_mark : goal.returns-then-not-has_mark
unfolding header_of
returns-then-not-has_mark c =
    simp (
      le-ltb (length c.args.s.now) 8 (omega arith),
      sym c.has_mark.ensures ∙ c.if-not-has_mark.true,
    )

pub returns-then-not-version_fits : goal.returns-then-not-version_fits
unfolding header_of
returns-then-not-version_fits c =
    simp (
      le-ltb (length c.args.s.now) 8 (omega arith),
      sym c.has_mark.ensures ∙ c.if-not-has_mark.false,
      ap version_ok (sym c.version.ensures) ∙ sym c.version_fits.ensures ∙ c.if-not-version_fits.true,
    )

pub returns-then-not-counts_fit : goal.returns-then-not-counts_fit
unfolding header_of
returns-then-not-counts_fit c =
    simp (
      le-ltb (length c.args.s.now) 8 (omega arith),
      sym c.has_mark.ensures ∙ c.if-not-has_mark.false,
      ap version_ok (sym c.version.ensures) ∙ sym c.version_fits.ensures ∙ c.if-not-version_fits.false,
      sym c.counts_fit.ensures ∙ c.if-not-counts_fit.true,
    )

pub returns-in_err-assumed : goal.returns-in_err-assumed
unfolding header_of
returns-in_err-assumed c =
    let p = err_from_is_err_and c.from_residual.result c.from_residual.ensures.1 in
    rw (p.1, p.2)
    (simp (
      le-ltb (length c.args.s.now) 8 (omega arith),
      sym c.has_mark.ensures ∙ c.if-not-has_mark.false,
      ap version_ok (sym c.version.ensures) ∙ sym c.version_fits.ensures ∙ c.if-not-version_fits.false,
      sym c.counts_fit.ensures ∙ c.if-not-counts_fit.false,
      sym c.read_assumed.ensures ∙ c.in_err-assumed.was,
    ))

pub returns : goal.returns
unfolding header_of
returns c =
    simp (
      le-ltb (length c.args.s.now) 8 (omega arith),
      sym c.has_mark.ensures ∙ c.if-not-has_mark.false,
      ap version_ok (sym c.version.ensures) ∙ sym c.version_fits.ensures ∙ c.if-not-version_fits.false,
      sym c.counts_fit.ensures ∙ c.if-not-counts_fit.false,
      sym c.read_assumed.ensures ∙ c.in_ok-assumed.was,
    )
