-- The loop of `trace::sweep::refresh_block`.
use Rattle.std.proofs.Common.{length}
use Rattle.trace.specs.Order.{Done}
use Rattle.trace.specs.Passes.{Sweeps, sides}
use Rattle.trace.proofs.sweep.refresh_block.Given as goal

abbrev pub invariant-loop-s : goal.invariant-loop-s
invariant-loop-s l =
    let done = Done l.lead l.up (length l.letters) l.outputs l.block in
    Sweeps l.sheet.outputs (length l.letters) (sides l.sheet l.letters) l.lead l.up (done 0) (done l.s-index) l.initial.buf l.buf
