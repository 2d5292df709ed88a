-- The theorem is `ThirdDemand`.
use Rattle.claims.proofs.ThirdDemand.{third_demand}
use Rattle.claims.proofs.third_demand.Goals as goal

pub returns : goal.returns
returns c = third_demand
