-- The theorem is `ReachExamples`.
use Rattle.examples.proofs.Reaches.{reach_examples}
use Rattle.examples.proofs.reach_examples.Goals as goal

pub returns : goal.returns
returns c = reach_examples
