-- The loop of `trace::sweep::passes`.
use Rattle.std.proofs.Common.{length}
use Rattle.trace.specs.Passes.{sides}
use Rattle.trace.proofs.Solving.{Going}
use Rattle.trace.proofs.sweep.passes.Given as goal

abbrev pub invariant-loop : goal.invariant-loop
invariant-loop l = Going l.sheet.outputs (length l.letters) (sides l.sheet l.letters) l.initial.buf l.buf l.counter
