-- `circular::table::closed` meets its contract.
use Rattle.std.proofs.Common.{arith}
use Rattle.circular.proofs.Codes.{stage-start, stage-next, stage-closed}
use Rattle.circular.proofs.table.closed.Goals as goal

pub loop-k-init : goal.loop-k-init
loop-k-init c = (c.based-t.ensures.0, stage-start _ _ _ c.based-t.ensures.1)

pub loop-k-preserved : goal.loop-k-preserved
loop-k-preserved c =
    (c.stage.ensures.0, stage-next _ _ _ _ _ (omega arith) (omega arith) c.loop-k.invariant.1 c.stage.ensures.1)

pub returns : goal.returns
returns c = stage-closed _ _ _ _ (omega arith) c.loop-k.invariant.1
