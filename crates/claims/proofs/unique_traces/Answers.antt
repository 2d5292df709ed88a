-- The theorem is `UniqueTraces`.
use Rattle.claims.proofs.SecondDemand.{unique_traces}
use Rattle.claims.proofs.unique_traces.Goals as goal

pub returns : goal.returns
returns c = unique_traces
