-- The loop of `rounds::hear`.
use Rattle.std.proofs.Common.{◌*◌}
use Rattle.pairs.specs.Storage.{scratch_at}
use Rattle.pairs.specs.Changes.{Adds}
use Rattle.rounds.specs.Rows.{among, heard_first}
use Rattle.rounds.proofs.hear.Given as goal

abbrev pub invariant-loop-j : goal.invariant-loop-j
invariant-loop-j l = Adds scratch_at l.initial.s l.s (heard_first l.size.valuations (among l.letters) (64 * l.j))
