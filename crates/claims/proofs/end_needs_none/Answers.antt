-- The theorem is `EndNeedsNone`.
use Rattle.claims.proofs.Further.{end_mark}
use Rattle.claims.proofs.end_needs_none.Goals as goal

pub returns : goal.returns
returns c = end_mark
