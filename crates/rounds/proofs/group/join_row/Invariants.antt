-- The loop of `rounds::group::join_row`.
use Rattle.std.proofs.Common.{◌*◌}
use Rattle.pairs.specs.Storage.{scratch_at}
use Rattle.pairs.specs.Changes.{Adds}
use Rattle.rounds.proofs.WordLaws.{Joined}
use Rattle.rounds.proofs.group.join_row.Given as goal

abbrev pub invariant-loop-j : goal.invariant-loop-j
invariant-loop-j l = Adds scratch_at l.initial.s l.s (Joined l.initial.s l.letters l.a l.g (64 * l.j))
