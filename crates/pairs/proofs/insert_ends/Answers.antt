-- `pairs::insert_ends` meets its contract.
use Rattle.std.proofs.Common.{sym, arith}
use Rattle.pairs.proofs.Sets.{ends_inserted}
use Rattle.pairs.proofs.insert_ends.Goals as goal

pub returns : goal.returns
returns c = rw (sym c.base.ensures.is) (ends_inserted _ _ _ _ c.requires (omega arith))
