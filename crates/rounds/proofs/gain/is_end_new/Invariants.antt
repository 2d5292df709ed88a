-- The loop of `rounds::gain::is_end_new`.
use Rattle.std.proofs.Common.{◌*◌}
use Rattle.pairs.specs.Storage.{live, reached, scratch}
use Rattle.rounds.specs.Rows.{NoEndNew}
use Rattle.rounds.proofs.gain.is_end_new.Given as goal

abbrev pub invariant-loop-j : goal.invariant-loop-j
invariant-loop-j l = NoEndNew (live l.s) (reached l.s) (scratch l.s) (64 * l.j) l.g
