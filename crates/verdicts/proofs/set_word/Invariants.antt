-- The loop of `verdicts::set_word`.
use Rattle.verdicts.proofs.VerdictLaws.{Narrowed}
use Rattle.verdicts.proofs.set_word.Given as goal

abbrev pub invariant-loop-k : goal.invariant-loop-k
invariant-loop-k l = Narrowed l.m l.n l.set l.j l.word l.k
