-- The loops of `record::record_ok`.
use mathlib.Core.Path.{◌≡◌}
use mathlib.Core.Bool.{true}
use Prim.Native.Nat.{◌≤◌}
use Rattle.record.specs.Record.{add_up}
use Rattle.record.proofs.record_ok.Given as goal

abbrev pub invariant-loop-k : goal.invariant-loop-k
invariant-loop-k l = (l.k ≤ l.n) × (add_up l.r.counts l.t l.k ≡ true)
