-- The loop of `lanes::row::combine`.
use Rattle.std.proofs.Common.{get_or}
use Rattle.lanes.proofs.RowLaws.{Writing}
use Rattle.lanes.proofs.row.combine.Given as goal

abbrev pub invariant-loop-j : goal.invariant-loop-j
invariant-loop-j g l = Writing g.row.W (λ k z. goal.F-post g l.op (get_or l.below k 0) (get_or l.initial.row k 0) z) l.initial.row l.row l.j
