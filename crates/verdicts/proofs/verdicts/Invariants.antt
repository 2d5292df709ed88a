-- The loop of `verdicts::verdicts`.
use Rattle.std.proofs.Common.{true, false, ◌+◌}
use Rattle.words.specs.Bits.{bit}
use Rattle.completions.specs.Steps.{verdict_of}
use Rattle.verdicts.specs.Firsts.{shows}
use Rattle.verdicts.proofs.VerdictLaws.{Telling}
use Rattle.verdicts.proofs.verdicts.Given as goal

abbrev pub invariant-loop-k : goal.invariant-loop-k
invariant-loop-k l =
    Telling l.size.outputs (λ k. verdict_of (shows l.size.words l.f (bit (l.size.inputs + k)) true) (shows l.size.words l.f (bit (l.size.inputs + k)) false)) l.vs l.k
