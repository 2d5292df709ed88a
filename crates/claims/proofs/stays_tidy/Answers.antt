-- The theorem is `StaysTidy`.
use Rattle.claims.proofs.Tidy.{stays_tidy}
use Rattle.claims.proofs.stays_tidy.Goals as goal

pub returns : goal.returns
returns c = stays_tidy
