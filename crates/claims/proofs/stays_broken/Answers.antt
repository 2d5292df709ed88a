-- The theorem is `StaysBroken`.
use Rattle.claims.proofs.Further.{stays_broken}
use Rattle.claims.proofs.stays_broken.Goals as goal

pub returns : goal.returns
returns c = stays_broken
