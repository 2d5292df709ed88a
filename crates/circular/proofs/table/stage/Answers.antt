-- `circular::table::stage` meets its contract.
use Rattle.std.proofs.Common.{arith}
use Rattle.circular.proofs.Rows.{stage-joined, stage-kept}
use Rattle.circular.proofs.table.stage.Goals as goal
use Rattle.circular.proofs.table.stage.Goals.{then-to-ne-NO_WALK, else-to-ne-NO_WALK}

pub loop-i-preserved : goal.loop-i-preserved
loop-i-preserved c =
    elim c.if-to-ne-NO_WALK.branch [ then-to-ne-NO_WALK w ↦ rw w.t-is (stage-joined _ c.loop-i.t _ _ _ c.tails-on.ensures c.loop-i.invariant.1 (omega arith) w.joined.result w.joined.ensures c.loop-i.invariant.0) | else-to-ne-NO_WALK w ↦ rw w.t-is (stage-kept _ c.loop-i.t _ _ _ c.tails-on.ensures c.loop-i.invariant.1 w.if-to-ne-NO_WALK.false c.loop-i.invariant.0) ]
