-- The loop of `lanes::row::fill_row`.
use Rattle.std.proofs.Common.{◌≡◌}
use Rattle.lanes.proofs.RowLaws.{Writing}
use Rattle.lanes.proofs.row.fill_row.Given as goal

abbrev pub invariant-loop-j : goal.invariant-loop-j
invariant-loop-j g l = Writing g.row.W (λ k z. z ≡ l.x) l.initial.row l.row l.j
