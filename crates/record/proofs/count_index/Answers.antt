-- `record::count_index` meets its contract.
use native.Mathlib.Omega.{arith}
use Rattle.record.proofs.Tallies.{column_lt}
use Rattle.record.proofs.count_index.Goals as goal

pub overflow_add-result : goal.overflow_add-result
overflow_add-result c = omega (arith, column_lt c.args.verdict)
