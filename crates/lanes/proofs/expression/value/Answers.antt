-- `lanes::expression::value` meets its contract.
use Rattle.std.proofs.Common.{arith}
use Rattle.lanes.proofs.ParseLaws.{none_done, one-done, all_done}
use Rattle.lanes.proofs.expression.value.Goals as goal

pub loop-e-init : goal.loop-e-init
loop-e-init g c = (c.told-top, none_done _ _ _ _ _ _)

pub loop-e-preserved : goal.loop-e-preserved
loop-e-preserved g c = (omega arith, one-done _ _ _ _ _ _ _ _ _ _ _ _ c.loop-e-test.true c.loop-e.invariant.1 c.step-used.ensures.stepped)

pub returns-clause-values : goal.returns-clause-values
returns-clause-values g c = record { lanes = λ s x p j i g' h. all_done _ _ _ _ _ _ _ _ _ c.loop-e.invariant.1 c.loop-e-test.false s x p j i g' h }
