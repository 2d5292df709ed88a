-- The theorem is `LiveSet`.
use Rattle.claims.proofs.Further.{live-set}
use Rattle.claims.proofs.live_set.Goals as goal

pub returns : goal.returns
returns c = live-set
