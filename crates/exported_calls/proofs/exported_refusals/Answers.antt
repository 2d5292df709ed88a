-- The theorem is `ExportedRefusals`.
use Rattle.exported_calls.proofs.Refusals.{exported_refusals}
use Rattle.exported_calls.proofs.exported_refusals.Goals as goal

pub returns : goal.returns
returns c = exported_refusals
