-- The theorem is `OtherShares`.
use Rattle.claims.proofs.Share.{other_shares}
use Rattle.claims.proofs.other_shares.Goals as goal

pub returns : goal.returns
returns c = other_shares
