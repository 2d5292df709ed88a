-- `checks::check_end` meets its contract.
use mathlib.Core.Path.{refl}
use mathlib.Core.Logic.{inl, inr}
use Rattle.checks.proofs.check_end.Goals as goal

pub returns-then-r-eq0 : goal.returns-then-r-eq0
returns-then-r-eq0 c = inl (c.if-r-eq0.true, refl)

pub returns : goal.returns
returns c = inr (c.if-r-eq0.false, refl)
