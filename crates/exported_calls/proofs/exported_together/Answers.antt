-- The theorem is `ExportedTogether`.
use Rattle.exported_calls.proofs.ExportedCalls.{exported_together}
use Rattle.exported_calls.proofs.exported_together.Goals as goal

pub returns : goal.returns
returns c = exported_together
