-- `circular::table::based` meets its contract.
use Rattle.std.proofs.Common.{arith}
use Rattle.circular.proofs.Rows.{small_set, rows_none, rows_more, eight-rows}
use Rattle.circular.proofs.table.based.Goals as goal

pub loop-s-init : goal.loop-s-init
loop-s-init c = (eight-rows, rows_none _ _ _)

pub loop-s-preserved : goal.loop-s-preserved
loop-s-preserved c = (
  small_set _ c.loop-s.s _ (omega arith) c.base_row.ensures.small c.loop-s.invariant.0,
  rows_more _ _ _ c.loop-s.s _ _ (omega (arith, c.loop-s.invariant.0.size)) c.base_row.ensures.cells c.loop-s.invariant.1,
)
