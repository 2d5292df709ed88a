-- The theorem is `FirstDemand`.
use Rattle.claims.proofs.FirstDemand.{first_demand}
use Rattle.claims.proofs.first_demand.Goals as goal

pub returns : goal.returns
returns c = first_demand
