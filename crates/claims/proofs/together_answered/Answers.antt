-- The theorem is `TogetherAnswered`.
use Rattle.claims.proofs.Queries.{together-answered}
use Rattle.claims.proofs.together_answered.Goals as goal

pub returns : goal.returns
returns c = together-answered
