-- A run that is over stays so, and nothing is written for it.
use Rattle.protocol.proofs.Feeding.{goes-none}
use Rattle.protocol.proofs.feed.Goals as goal

pub returns-in-None-clause-goes : goal.returns-in-None-clause-goes
returns-in-None-clause-goes c = goes-none _ _ _ _ c.in-None.is
