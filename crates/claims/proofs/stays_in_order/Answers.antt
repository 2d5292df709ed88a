-- The theorem is `StaysInOrder`.
use Rattle.claims.proofs.Further.{stays_in_order}
use Rattle.claims.proofs.stays_in_order.Goals as goal

pub returns : goal.returns
returns c = stays_in_order
