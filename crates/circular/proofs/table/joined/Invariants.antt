-- The loop of `circular::table::joined`.
use Rattle.std.proofs.Common.{get_or, max}
use Rattle.circular.specs.Table.{plus_n}
use Rattle.circular.proofs.Rows.{Front}
use Rattle.circular.proofs.table.joined.Given as goal

abbrev pub invariant-loop-q : goal.invariant-loop-q
invariant-loop-q l = Front l.q (λ q. max (get_or l.row q 0) (plus_n l.to (get_or l.tails q 0))) l.row l.entry-items
