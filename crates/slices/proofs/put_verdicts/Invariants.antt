-- The loops of `slices::put_verdicts`.
use Prim.Native.Nat.{◌≤◌}
use Rattle.slices.specs.Slices.{verdict_numbers}
use Rattle.slices.proofs.SliceLaws.{PutTo}
use Rattle.slices.proofs.put_verdicts.Given as goal

abbrev pub invariant-loop-i : goal.invariant-loop-i
invariant-loop-i l = (l.i ≤ l.n) × PutTo l.i l.at (verdict_numbers l.verdicts l.n) l.initial.into l.into
