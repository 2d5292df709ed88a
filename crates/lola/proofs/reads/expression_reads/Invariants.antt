-- The loop of `lola::reads::expression_reads`.
use Rattle.lola.proofs.TreeReads.{Marked}
use Rattle.lola.proofs.reads.expression_reads.Given as goal

abbrev pub invariant-loop-byte : goal.invariant-loop-byte
invariant-loop-byte l = Marked l.e l.word l.byte-index
