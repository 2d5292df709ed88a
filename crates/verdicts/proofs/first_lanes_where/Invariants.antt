-- The loop of `verdicts::first_lanes_where`.
use Rattle.std.proofs.Common.{ℕ, Bool}
use Rattle.verdicts.specs.Firsts.{Decides}
use Rattle.verdicts.proofs.VerdictLaws.{Counted}
use Rattle.verdicts.proofs.first_lanes_where.Given as goal

abbrev pub invariant-loop-i : goal.invariant-loop-i
invariant-loop-i g l = (G : ℕ → Bool) → Decides (goal.F-post g l.test) G → Counted G l.word l.i
