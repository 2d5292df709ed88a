-- `verdicts::firsts` meets its contract.
use Rattle.std.proofs.Common.{rules}
use Rattle.verdicts.proofs.firsts.Goals as goal

pub returns : goal.returns
returns c = c.row_by.ensures _ (λ j h x p. search rules)
