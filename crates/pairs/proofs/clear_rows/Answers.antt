-- `pairs::clear_rows` meets its contract.
use Rattle.std.proofs.Common.{sym}
use Rattle.pairs.proofs.Fill.{rows-cleared}
use Rattle.pairs.proofs.clear_rows.Goals as goal

pub returns : goal.returns
returns c = rw (sym c.base-at.ensures.is) (rows-cleared _ _ _ _ _ c.requires c.clear_words.ensures c.clear_words-2.ensures)
