-- The theorem is `SomeTogether`.
use Rattle.claims.proofs.Queries.{some-together-fits}
use Rattle.claims.proofs.some_together.Goals as goal

pub returns : goal.returns
returns c = some-together-fits
