-- The loops of `reader::read_outputs`.
use Rattle.reader.proofs.AllOutputs.{OutputsTo}
use Rattle.reader.proofs.read_outputs.Given as goal

abbrev pub invariant-loop-k : goal.invariant-loop-k
invariant-loop-k l = OutputsTo l.s l.grammar l.n l.len l.code l.at l.k
