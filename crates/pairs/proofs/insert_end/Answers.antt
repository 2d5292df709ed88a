-- `pairs::insert_end` meets its contract.
use Rattle.std.proofs.Common.{sym, arith}
use Rattle.std.proofs.Math.Option.{none}
use Rattle.pairs.specs.Storage.{word_of, slot}
use Rattle.pairs.proofs.Sets.{inserted}
use Rattle.pairs.proofs.insert_end.Goals as goal

pub returns : goal.returns
unfolding word_of slot
returns c = rw (sym c.base.ensures.is) (inserted _ _ _ none c.requires tt (omega arith))
