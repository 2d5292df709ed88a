-- `lanes::ahead` meets its contract.
use Rattle.lanes.proofs.AroundLaws.{ahead-word}
use Rattle.lanes.proofs.ahead.Goals as goal

pub returns : goal.returns
returns c = rw c.from.ensures (ahead-word _ _ c.beside.ensures _ c.requires.0)
