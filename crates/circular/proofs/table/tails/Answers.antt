-- `circular::table::tails` meets its contract.
use Rattle.std.proofs.Common.{arith}
use Rattle.circular.proofs.Rows.{tails-of}
use Rattle.circular.proofs.table.tails.Goals as goal

pub returns : goal.returns
returns c = tails-of _ _ _ _ (omega (arith, c.told-row, c.loop-entry.invariant.same_length)) c.requires.1 c.loop-entry.invariant
