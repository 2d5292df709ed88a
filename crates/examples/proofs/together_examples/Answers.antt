-- The theorem is `TogetherExamples`.
use Rattle.examples.proofs.Together.{together_examples}
use Rattle.examples.proofs.together_examples.Goals as goal

pub returns : goal.returns
returns c = together_examples
