-- The theorem is `Examples`.
use Rattle.examples.proofs.Computed.{examples}
use Rattle.examples.proofs.examples.Goals as goal

pub returns : goal.returns
returns c = examples
