-- `lanes::seen` meets its contract.
use Rattle.lanes.proofs.AroundLaws.{seen_of}
use Rattle.lanes.proofs.seen.Goals as goal

pub returns : goal.returns
returns c = λ p h. rw c.from.ensures (seen_of _ p _ h c.requires)
