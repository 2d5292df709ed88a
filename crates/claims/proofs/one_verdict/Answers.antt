-- The theorem is `OneVerdict`.
use Rattle.claims.proofs.Further.{one-verdict-fits}
use Rattle.claims.proofs.one_verdict.Goals as goal

pub returns : goal.returns
returns c = one-verdict-fits
