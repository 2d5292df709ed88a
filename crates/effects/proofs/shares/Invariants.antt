-- The loops of `effects::shares`.
use Prim.Native.Nat.{◌-◌, ◌≤◌}
use Rattle.effects.proofs.Sharing.{SharesTo}
use Rattle.effects.proofs.shares.Given as goal

abbrev pub invariant-loop-k : goal.invariant-loop-k
invariant-loop-k l = (l.k ≤ l.n) × SharesTo l.k l.r.counts l.r.rounds l.out
