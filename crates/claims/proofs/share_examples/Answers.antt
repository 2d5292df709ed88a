-- The theorem is `ShareExamples`.
use Rattle.claims.proofs.Share.{share_examples}
use Rattle.claims.proofs.share_examples.Goals as goal

pub returns : goal.returns
returns c = share_examples
