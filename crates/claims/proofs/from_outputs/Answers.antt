-- The theorem is `FromOutputs`.
use Rattle.claims.proofs.Queries.{from-outputs}
use Rattle.claims.proofs.from_outputs.Goals as goal

pub returns : goal.returns
returns c = from-outputs
