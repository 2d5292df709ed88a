-- `predecessors::covers` meets its contract.
use Rattle.std.proofs.Common.{arith}
use Rattle.predecessors.proofs.Rows.{covering_more, covered}
use Rattle.predecessors.proofs.covers.Goals as goal

pub loop-j-preserved : goal.loop-j-preserved
loop-j-preserved c = covering_more c.args.row.now c.args.ok.now c.loop-j.j c.loop-j.invariant c.if-ok-j.false

pub returns : goal.returns
returns c = λ e a l f. covered _ _ _ _ a (omega arith) c.loop-j.invariant l f
