-- `preparation::join_ends` meets its contract.
use Rattle.std.proofs.Common.{arith}
use Rattle.preparation.proofs.Joining.{ends-none, ends_skip, ends_more}
use Rattle.preparation.proofs.join_ends.Goals as goal

pub loop-a-init : goal.loop-a-init
loop-a-init c = (omega arith, ends-none _ _ _)

pub loop-a-preserved : goal.loop-a-preserved
loop-a-preserved c =
    let n = c.in-Some.ensures in
    (omega (arith, n.1), ends_more _ _ _ _ _ _ n.3 (ends_skip _ _ _ _ _ _ n.0 n.2 c.loop-a.invariant.1) c.join_end.ensures)

pub returns : goal.returns
returns c = ends_skip _ _ _ _ _ _ c.loop-a.invariant.0 c.in_default.ensures c.loop-a.invariant.1
