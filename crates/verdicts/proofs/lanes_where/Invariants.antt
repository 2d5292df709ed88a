-- The loop of `verdicts::lanes_where`.
use Rattle.std.proofs.Common.{ℕ, Bool}
use Rattle.verdicts.specs.Firsts.{Decides}
use Rattle.verdicts.proofs.VerdictLaws.{Looking}
use Rattle.verdicts.proofs.lanes_where.Given as goal

abbrev pub invariant-loop-rest : goal.invariant-loop-rest
invariant-loop-rest g l = (G : ℕ → Bool) → Decides (goal.F-post g l.test) G → Looking G l.x l.word l.rest

abbrev pub decreases-loop-rest : goal.decreases-loop-rest
decreases-loop-rest g l = l.rest
