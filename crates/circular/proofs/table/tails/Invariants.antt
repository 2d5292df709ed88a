-- The loop of `circular::table::tails`.
use Rattle.std.proofs.Common.{get_or}
use Rattle.circular.specs.Table.{loop_n}
use Rattle.circular.proofs.Rows.{Front}
use Rattle.circular.proofs.table.tails.Given as goal

abbrev pub invariant-loop-entry : goal.invariant-loop-entry
invariant-loop-entry l = Front l.entry-index (λ q. loop_n l.around (get_or l.row q 0)) l.row l.entry-items
