-- `pairs::take_row` meets its contract.
use Rattle.std.proofs.Common.{sym, arith}
use Rattle.pairs.proofs.Sets.{row_taken}
use Rattle.pairs.proofs.take_row.Goals as goal

pub returns : goal.returns
returns c = rw (sym c.base-at.ensures.is) (row_taken _ _ _ _ c.requires (omega arith) c.clear_words.ensures)
