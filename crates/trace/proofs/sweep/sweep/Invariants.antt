-- The loop of `trace::sweep::sweep`.
use Rattle.std.proofs.Common.{length}
use Rattle.trace.specs.Order.{InSet, Done}
use Rattle.trace.specs.Passes.{Sweeps, sides}
use Rattle.trace.proofs.sweep.sweep.Given as goal

abbrev pub invariant-loop-block : goal.invariant-loop-block
invariant-loop-block l =
    Sweeps l.sheet.outputs (length l.letters) (sides l.sheet l.letters) l.lead l.up InSet (Done l.lead l.up (length l.letters) l.order.items l.block 0) l.initial.buf l.buf
