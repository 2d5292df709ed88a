-- The theorem is `SecondDemand`.
use Rattle.claims.proofs.SecondDemand.{second_demand}
use Rattle.claims.proofs.second_demand.Goals as goal

pub returns : goal.returns
returns c = second_demand
