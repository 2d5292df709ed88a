-- The theorem is `BrokenSets`.
use Rattle.claims.proofs.Queries.{broken_sets}
use Rattle.claims.proofs.broken_sets.Goals as goal

pub returns : goal.returns
returns c = broken_sets
