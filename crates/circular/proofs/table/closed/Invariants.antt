-- The loop of `circular::table::closed`.
use Rattle.circular.specs.Table.{base_n, reads_of_words, SmallTable}
use Rattle.circular.proofs.Codes.{Stage}
use Rattle.circular.proofs.table.closed.Given as goal

abbrev pub invariant-loop-k : goal.invariant-loop-k
invariant-loop-k l = SmallTable l.t × Stage l.n (λ i j. base_n l.up (reads_of_words l.words l.m i j)) l.k l.t
