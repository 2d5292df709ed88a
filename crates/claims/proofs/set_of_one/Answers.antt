-- The theorem is `SetOfOne`.
use Rattle.claims.proofs.Queries.{set-of-one}
use Rattle.claims.proofs.set_of_one.Goals as goal

pub returns : goal.returns
returns c = set-of-one
