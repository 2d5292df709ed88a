-- `trace::order::settle` meets its contract.
use Rattle.std.proofs.Common.{arith}
use Rattle.trace.proofs.Leads.{settled_more}
use Rattle.trace.proofs.order.settle.Goals as goal
use Rattle.trace.proofs.order.settle.Goals.{then-lead-s-le-LONGEST, else-lead-s-le-LONGEST}

pub loop-s-preserved : goal.loop-s-preserved
loop-s-preserved c = elim c.if-lead-s-le-LONGEST.branch [ then-lead-s-le-LONGEST w ↦ rw w.set-is (settled_more _ _ _ _ c.loop-s.invariant (omega arith) w.if-lead-s-le-LONGEST.true) | else-lead-s-le-LONGEST w ↦ rw w.set-is c.loop-s.invariant ]
