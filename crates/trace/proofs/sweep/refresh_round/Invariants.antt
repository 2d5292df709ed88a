-- The loop of `trace::sweep::refresh_round`.
use Rattle.std.proofs.Common.{◌≡◌, ◌<◌, length}
use Rattle.trace.specs.Passes.{Passed, sides}
use Rattle.trace.proofs.sweep.refresh_round.Given as goal

abbrev pub invariant-loop-s : goal.invariant-loop-s
invariant-loop-s l =
    Passed l.sheet.outputs (length l.letters) (sides l.sheet l.letters) (λ q u. (q < l.s) × (u ≡ l.t)) l.initial.buf l.buf l.changed
