-- The theorem is `HalvesBySixteen`.
use Rattle.claims.proofs.Share.{halves_by_sixteen}
use Rattle.claims.proofs.halves_by_sixteen.Goals as goal

pub returns : goal.returns
returns c = halves_by_sixteen
