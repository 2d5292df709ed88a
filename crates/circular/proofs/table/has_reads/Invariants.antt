-- The loop of `circular::table::has_reads`.
use Rattle.circular.proofs.Masks.{Lacks}
use Rattle.circular.proofs.table.has_reads.Given as goal

abbrev pub invariant-loop-word : goal.invariant-loop-word
invariant-loop-word l = Lacks l.words l.all l.word-index
