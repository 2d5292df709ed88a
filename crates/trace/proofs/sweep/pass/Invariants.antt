-- The loop of `trace::sweep::pass`.
use Rattle.std.proofs.Common.{◌<◌, length}
use Rattle.trace.specs.Passes.{Passed, sides}
use Rattle.trace.proofs.sweep.pass.Given as goal

abbrev pub invariant-loop-t : goal.invariant-loop-t
invariant-loop-t l = Passed l.sheet.outputs (length l.letters) (sides l.sheet l.letters) (λ q u. u < l.t) l.initial.buf l.buf l.changed
