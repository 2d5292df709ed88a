-- The theorem is `OneTogether`.
use Rattle.claims.proofs.Queries.{one-together-fits}
use Rattle.claims.proofs.one_together.Goals as goal

pub returns : goal.returns
returns c = one-together-fits
