-- `lola::reads::expression_reads` meets its contract.
use Rattle.std.proofs.Common.{arith}
use Rattle.lola.proofs.TreeReads.{marked-none, marked_more, marked_all}
use Rattle.lola.proofs.reads.expression_reads.Goals as goal

pub loop-byte-init : goal.loop-byte-init
loop-byte-init c = marked-none _

pub loop-byte-preserved : goal.loop-byte-preserved
loop-byte-preserved c = marked_more _ _ _ _ (omega arith) c.loop-byte.invariant c.byte_read-word.ensures

pub returns : goal.returns
returns c = marked_all _ _ _ (omega arith) c.loop-byte.invariant
