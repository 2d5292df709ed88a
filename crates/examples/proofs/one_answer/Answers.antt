-- The theorem is `OneAnswer`.
use Rattle.examples.proofs.OneAnswer.{one_answer}
use Rattle.examples.proofs.one_answer.Goals as goal

pub returns : goal.returns
returns c = one_answer
