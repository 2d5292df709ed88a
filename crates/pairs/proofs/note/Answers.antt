-- `pairs::note` meets its contract.
use Rattle.std.proofs.Common.{arith}
use Rattle.pairs.proofs.Sets.{noted}
use Rattle.pairs.proofs.note.Goals as goal

pub returns : goal.returns
returns c = noted _ _ c.requires (omega arith)
