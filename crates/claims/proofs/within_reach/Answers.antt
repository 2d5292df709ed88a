-- The theorem is `WithinReach`.
use Rattle.claims.proofs.Further.{within-reach}
use Rattle.claims.proofs.within_reach.Goals as goal

pub returns : goal.returns
returns c = within-reach
