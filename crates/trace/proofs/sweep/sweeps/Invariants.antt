-- The loop of `trace::sweep::sweeps`.
use Rattle.std.proofs.Common.{length}
use Rattle.trace.specs.Order.{InSet}
use Rattle.trace.specs.Passes.{Extends, sides}
use Rattle.trace.proofs.sweep.sweeps.Given as goal

abbrev pub invariant-loop-k : goal.invariant-loop-k
invariant-loop-k l =
    Extends l.sheet.outputs (length l.letters) (sides l.sheet l.letters) l.masks (λ q u. ⊥) (InSet l.settled) l.initial.buf l.buf
