-- `pairs::has` meets its contract.
use Rattle.std.proofs.Common.{sym, ◌∙◌}
use Rattle.pairs.proofs.Sets.{has_bit}
use Rattle.pairs.proofs.has.Goals as goal

pub returns : goal.returns
returns c = rw (sym c.base.ensures.is) (c.has_bit.ensures ∙ has_bit _ _ _ _)
