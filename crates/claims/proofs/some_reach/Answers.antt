-- The theorem is `SomeReach`.
use Rattle.claims.proofs.Further.{some_exact_reach}
use Rattle.claims.proofs.some_reach.Goals as goal

pub returns : goal.returns
returns c = some_exact_reach
