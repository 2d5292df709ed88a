-- `pairs::ends_word` meets its contract.
use Rattle.std.proofs.Common.{sym}
use Rattle.pairs.proofs.Sets.{lane_end}
use Rattle.pairs.proofs.ends_word.Goals as goal

pub returns : goal.returns
returns c = λ i h. rw (sym c.base.ensures.is) (lane_end _ _ _ i h)
