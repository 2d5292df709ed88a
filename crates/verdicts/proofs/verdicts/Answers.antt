-- `verdicts::verdicts` meets its contract.
use Rattle.std.proofs.Common.{refl}
use Rattle.verdicts.proofs.VerdictLaws.{telling_none, telling_more, telling_all}
use Rattle.verdicts.proofs.verdicts.Goals as goal

pub loop-k-init : goal.loop-k-init
loop-k-init c = telling_none _ _ _ refl

pub loop-k-preserved : goal.loop-k-preserved
loop-k-preserved c = telling_more _ _ _ _ _ c.loop-k-test.true c.requires c.loop-k.invariant (c.verdict.ensures _ c.output_test.ensures)

pub returns : goal.returns
returns c = telling_all _ _ _ _ c.loop-k-test.false c.loop-k.invariant
