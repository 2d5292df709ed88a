-- The theorem is `OneShare`.
use Rattle.claims.proofs.Share.{one-share}
use Rattle.claims.proofs.one_share.Goals as goal

pub returns : goal.returns
returns c = one-share
