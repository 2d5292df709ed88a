-- `verdicts::verdict` meets its contract.
use Rattle.std.proofs.Common.{refl}
use Rattle.verdicts.proofs.VerdictLaws.{verdict-of}
use Rattle.verdicts.proofs.verdict.Goals as goal

pub returns-in-true-true : goal.returns-in-true-true
returns-in-true-true c = verdict-of _ _ _ _ _ _ _ c.in-true-true.ensures c.in-true-true.ensures' refl refl

pub returns-in-true-false : goal.returns-in-true-false
returns-in-true-false c = verdict-of _ _ _ _ _ _ _ c.in-true-false.ensures c.in-true-false.ensures' refl refl

pub returns-in-false-true : goal.returns-in-false-true
returns-in-false-true c = verdict-of _ _ _ _ _ _ _ c.in-false-true.ensures c.in-false-true.ensures' refl refl

pub returns-in-false-false : goal.returns-in-false-false
returns-in-false-false c = verdict-of _ _ _ _ _ _ _ c.in-false-false.ensures c.in-false-false.ensures' refl refl
