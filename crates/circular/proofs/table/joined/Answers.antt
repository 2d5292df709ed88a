-- `circular::table::joined` meets its contract.
use Rattle.std.proofs.Common.{arith}
use Rattle.circular.proofs.Rows.{joined-of}
use Rattle.circular.proofs.table.joined.Goals as goal

pub returns : goal.returns
returns c = joined-of _ _ _ _ _ (omega (arith, c.told-row, c.loop-q.invariant.same_length)) c.requires.1 c.loop-q.invariant
