-- `pairs::has_end` meets its contract.
use Rattle.std.proofs.Common.{sym, ◌∙◌}
use Rattle.pairs.proofs.Sets.{has_end_bit}
use Rattle.pairs.proofs.has_end.Goals as goal

pub returns : goal.returns
returns c = rw (sym c.base.ensures.is) (c.has_bit.ensures ∙ has_end_bit _ _ _)
