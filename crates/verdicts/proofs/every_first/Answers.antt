-- `verdicts::every_first` meets its contract.
use Rattle.std.proofs.Common.{rules}
use Rattle.verdicts.proofs.every_first.Goals as goal

pub returns : goal.returns
returns c = c.row_by.ensures _ (λ j h x p. search rules)
