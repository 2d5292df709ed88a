-- The theorem is `ReachBelow`.
use Rattle.claims.proofs.Further.{reach-bounded}
use Rattle.claims.proofs.reach_below.Goals as goal

pub returns : goal.returns
returns c = reach-bounded
