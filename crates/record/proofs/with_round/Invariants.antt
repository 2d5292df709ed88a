-- The loops of `record::with_round`.
use Prim.Native.Nat.{◌≤◌}
use Rattle.record.proofs.Tallies.{CountedTo}
use Rattle.record.proofs.with_round.Given as goal

abbrev pub invariant-loop-k : goal.invariant-loop-k
invariant-loop-k l = (l.k ≤ l.n) × CountedTo l.k l.verdicts l.r.counts l.counts
