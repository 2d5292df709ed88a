-- `pairs::insert_word` meets its contract.
use Rattle.std.proofs.Common.{sym, arith}
use Rattle.pairs.proofs.Sets.{word_inserted}
use Rattle.pairs.proofs.insert_word.Goals as goal

pub returns : goal.returns
returns c = rw (sym c.base.ensures.is) (word_inserted _ _ _ _ _ c.requires.0 c.requires.1 (omega arith))
