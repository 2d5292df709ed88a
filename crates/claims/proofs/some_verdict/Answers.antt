-- The theorem is `SomeVerdict`.
use Rattle.claims.proofs.Further.{some-verdict-fits}
use Rattle.claims.proofs.some_verdict.Goals as goal

pub returns : goal.returns
returns c = some-verdict-fits
