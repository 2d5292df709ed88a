-- `lanes::beside` meets its contract.
use Rattle.lanes.proofs.AroundLaws.{absent_beside, there-beside}
use Rattle.lanes.proofs.beside.Goals as goal

pub returns-in-Some : goal.returns-in-Some
returns-in-Some c = rw c.in-Some.is (there-beside _ (rw c.in-Some.is at c.requires))

pub returns-in-None : goal.returns-in-None
returns-in-None c = rw c.in-None.is absent_beside
