-- The loop of `circular::table::stage`.
use Rattle.circular.specs.Table.{cell_n, SmallTable}
use Rattle.circular.proofs.Rows.{FrontRows}
use Rattle.circular.proofs.table.stage.Given as goal

abbrev pub invariant-loop-i : goal.invariant-loop-i
invariant-loop-i l = SmallTable l.t × FrontRows l.i 8 (cell_n l.initial.t l.k) l.initial.t l.t
