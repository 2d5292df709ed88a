-- The theorem is `ShortCompletion`.
use Rattle.claims.proofs.Further.{short_completion}
use Rattle.claims.proofs.short_completion.Goals as goal

pub returns : goal.returns
returns c = short_completion
