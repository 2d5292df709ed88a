-- The loop of `circular::table::based`.
use Rattle.circular.specs.Table.{base_n, reads_of_words, SmallTable}
use Rattle.circular.proofs.Rows.{FrontRows}
use Rattle.circular.proofs.table.based.Given as goal

abbrev pub invariant-loop-s : goal.invariant-loop-s
invariant-loop-s l = SmallTable l.t × FrontRows l.s l.n (λ i j. base_n l.up (reads_of_words l.words l.m i j)) l.initial.t l.t
