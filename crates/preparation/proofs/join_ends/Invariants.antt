-- The loop of `preparation::join_ends`.
use Rattle.std.proofs.Common.{◌*◌, ◌-◌, ◌≤◌}
use Rattle.pairs.specs.Storage.{reached_at}
use Rattle.preparation.specs.Search.{enders, Joins}
use Rattle.preparation.proofs.join_ends.Given as goal

abbrev pub invariant-loop-a : goal.invariant-loop-a
invariant-loop-a l = (l.from ≤ 64 * l.w) × Joins reached_at l.initial.s l.s (enders l.from l.row)

abbrev pub decreases-loop-a : goal.decreases-loop-a
decreases-loop-a l = 64 * l.w - l.from
