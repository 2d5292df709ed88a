-- The theorem is `OneReach`.
use Rattle.claims.proofs.Further.{one_exact_reach}
use Rattle.claims.proofs.one_reach.Goals as goal

pub returns : goal.returns
returns c = one_exact_reach
