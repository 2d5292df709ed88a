-- `pairs::row_word` meets its contract.
use Rattle.std.proofs.Common.{sym}
use Rattle.pairs.proofs.Sets.{lane}
use Rattle.pairs.proofs.row_word.Goals as goal

pub returns : goal.returns
returns c = λ i h. rw (sym c.base.ensures.is) (lane _ _ _ _ i h)
