-- `predecessors::allowed_row` meets its contract.
use Rattle.std.proofs.Common.{rules}
use Rattle.predecessors.proofs.allowed_row.Goals as goal

pub returns : goal.returns
returns c = c.row_by.ensures _ (λ j h x p. search rules)
