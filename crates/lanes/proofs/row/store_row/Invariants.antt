-- The loop of `lanes::row::store_row`.
use Rattle.lanes.proofs.RowLaws.{Storing}
use Rattle.lanes.proofs.row.store_row.Given as goal

abbrev pub invariant-loop-j : goal.invariant-loop-j
invariant-loop-j g l = Storing g.row.W l.k l.row l.initial.st l.st l.j
