-- `checks::check_named` meets its contract.
use mathlib.Core.Path.{refl}
use mathlib.Core.Logic.{inl, inr}
use native.Mathlib.Omega.{arith}
use Rattle.words.proofs.BitLaws.{some-beyond, none-beyond}
use Rattle.checks.proofs.check_named.Goals as goal

pub returns-then-beyond-ne0 : goal.returns-then-beyond-ne0
returns-then-beyond-ne0 c =
    inl (some-beyond c.args.n c.args.outputs (λ e. omega (arith, e, c.if-beyond-ne0.true)), refl)

pub returns : goal.returns
returns c =
    inr (none-beyond c.args.n c.args.outputs (omega (arith, c.if-beyond-ne0.false)), c.check_end.ensures)
