-- The theorem is `ExportedCalls`.
use Rattle.exported_calls.proofs.ExportedCalls.{exported_calls}
use Rattle.exported_calls.proofs.exported_calls.Goals as goal

pub returns : goal.returns
returns c = exported_calls
