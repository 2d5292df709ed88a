-- `pairs::row_by` meets its contract.
use Rattle.std.proofs.Common.{arith}
use Rattle.pairs.proofs.RowWords.{filling_all}
use Rattle.pairs.proofs.row_by.Goals as goal

pub returns : goal.returns
returns g c = λ G h. filling_all _ _ _ _ (omega arith) (c.loop-j.invariant G h)
