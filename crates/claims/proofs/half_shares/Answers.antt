-- The theorem is `HalfShares`.
use Rattle.claims.proofs.Share.{half_shares}
use Rattle.claims.proofs.half_shares.Goals as goal

pub returns : goal.returns
returns c = half_shares
