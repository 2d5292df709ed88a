-- Nothing is written at the end of a run that is over.
use Rattle.protocol.proofs.Feeding.{finishes-none}
use Rattle.protocol.proofs.finish.Goals as goal

pub returns-in-None-clause-finishes : goal.returns-in-None-clause-finishes
returns-in-None-clause-finishes c = finishes-none _ _ _ c.in-None.is
