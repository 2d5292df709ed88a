-- `pairs::insert` meets its contract.
use Rattle.std.proofs.Common.{sym, arith}
use Rattle.std.proofs.Math.Option.{some}
use Rattle.pairs.specs.Storage.{word_of, slot}
use Rattle.pairs.proofs.Sets.{inserted}
use Rattle.pairs.proofs.insert.Goals as goal

pub returns : goal.returns
unfolding word_of slot
returns c = rw (sym c.base.ensures.is) (inserted _ _ _ (some c.args.b) c.requires.0 c.requires.1 (omega arith))
