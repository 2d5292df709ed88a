-- The theorem is `StorageForgotten`.
use Rattle.claims.proofs.Forgotten.{storage_forgotten}
use Rattle.claims.proofs.storage_forgotten.Goals as goal

pub returns : goal.returns
returns c = storage_forgotten
