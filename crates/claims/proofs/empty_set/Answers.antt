-- The theorem is `EmptySet`.
use Rattle.claims.proofs.Queries.{empty-set}
use Rattle.claims.proofs.empty_set.Goals as goal

pub returns : goal.returns
returns c = empty-set
