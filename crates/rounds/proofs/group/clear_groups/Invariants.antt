-- The loop of `rounds::group::clear_groups`.
use Rattle.std.proofs.Common.{◌-◌, ◌≤◌}
use Rattle.rounds.proofs.GroupLaws.{Emptying}
use Rattle.rounds.proofs.group.clear_groups.Given as goal

abbrev pub invariant-loop-g : goal.invariant-loop-g
invariant-loop-g l = (l.from ≤ l.size.valuations) × Emptying l.groups l.initial.s l.s l.from

abbrev pub decreases-loop-g : goal.decreases-loop-g
decreases-loop-g l = l.size.valuations - l.from
