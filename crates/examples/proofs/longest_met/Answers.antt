-- The theorem is `LongestMet`.
use Rattle.examples.proofs.Longest.{longest_met}
use Rattle.examples.proofs.longest_met.Goals as goal

pub returns : goal.returns
returns c = longest_met
