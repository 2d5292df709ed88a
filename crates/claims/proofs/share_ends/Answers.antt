-- The theorem is `ShareEnds`.
use Rattle.claims.proofs.Share.{share-ends}
use Rattle.claims.proofs.share_ends.Goals as goal

pub returns : goal.returns
returns c = share-ends
