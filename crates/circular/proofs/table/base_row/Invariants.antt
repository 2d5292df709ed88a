-- The loop of `circular::table::base_row`.
use Rattle.std.proofs.Common.{◌+◌}
use Rattle.lola.specs.ByteReads.{read_in}
use Rattle.circular.specs.Table.{base_n}
use Rattle.circular.proofs.Rows.{Front}
use Rattle.circular.proofs.table.base_row.Given as goal

abbrev pub invariant-loop-q : goal.invariant-loop-q
invariant-loop-q l = Front l.q (λ q. base_n l.up (read_in l.word (l.m + q))) l.initial.row l.row
