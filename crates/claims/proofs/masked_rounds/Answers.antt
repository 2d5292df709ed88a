-- The theorem is `MaskedRounds`.
use Rattle.claims.proofs.Masked.{masked-rounds}
use Rattle.claims.proofs.masked_rounds.Goals as goal

pub returns : goal.returns
returns c = masked-rounds
