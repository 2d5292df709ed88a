-- `lola::reads::byte_read` meets its contract.
use Rattle.lola.proofs.TreeReads.{bit_of_byte}
use Rattle.lola.proofs.reads.byte_read.Goals as goal

pub returns : goal.returns
returns c = rw c.from-b.ensures (bit_of_byte _)
