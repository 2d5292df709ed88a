-- `lanes::expression::step` meets its contract.
use Rattle.std.proofs.Common.{arith, rules}
use Rattle.lanes.proofs.StepLaws.{step-read, step-const, step-not, step-and, step-or, step-equal, step_lacks}
use Rattle.lanes.proofs.expression.step.Goals as goal

pub returns-then-e-ge64-clause-stepped : goal.returns-then-e-ge64-clause-stepped
returns-then-e-ge64-clause-stepped g c =
    step-read _ _ _ _ _ _ _ _ _ c.store_row.ensures (omega arith) c.read_row.ensures.words

pub returns-then-e-eq2-clause-stepped : goal.returns-then-e-eq2-clause-stepped
returns-then-e-eq2-clause-stepped g c = step-not _ _ _ _ _ _ _ _ c.if-e-eq2.true c.not_row.ensures.words

pub returns-then-used-eq0-clause-stepped : goal.returns-then-used-eq0-clause-stepped
returns-then-used-eq0-clause-stepped g c = step_lacks _ _ _ _ _ _ _ c.if-used-eq0.true (omega arith) (omega arith)

pub returns-then-e-eq3-clause-stepped : goal.returns-then-e-eq3-clause-stepped
returns-then-e-eq3-clause-stepped g c =
    step-and _ _ _ _ _ _ _ _ c.if-used-eq0.false c.if-e-eq3.true (λ j h. let k = c.combine.ensures.words j h in search rules)

pub returns-then-used-eq0-2-clause-stepped : goal.returns-then-used-eq0-2-clause-stepped
returns-then-used-eq0-2-clause-stepped g c = step_lacks _ _ _ _ _ _ _ c.if-used-eq0-2.true (omega arith) (omega arith)

pub returns-then-e-eq4-clause-stepped : goal.returns-then-e-eq4-clause-stepped
returns-then-e-eq4-clause-stepped g c =
    step-or _ _ _ _ _ _ _ _ c.if-used-eq0-2.false c.if-e-eq4.true (λ j h. let k = c.combine-then-e-eq4.ensures.words j h in search rules)

pub returns-then-used-eq0-3-clause-stepped : goal.returns-then-used-eq0-3-clause-stepped
returns-then-used-eq0-3-clause-stepped g c = step_lacks _ _ _ _ _ _ _ c.if-used-eq0-3.true (omega arith) (omega arith)

pub returns-then-e-gt3-clause-stepped : goal.returns-then-e-gt3-clause-stepped
returns-then-e-gt3-clause-stepped g c = step-equal _ _ _ _ _ _ _ _ c.if-used-eq0-3.false (omega arith) (omega arith) c.combine-then-e-gt3.ensures.words

pub returns-clause-stepped : goal.returns-clause-stepped
returns-clause-stepped g c =
    step-const _ _ _ _ _ _ _ _ _ c.store_row-2.ensures (omega arith) _ c.spread.ensures
    c.fill_row.ensures.words
