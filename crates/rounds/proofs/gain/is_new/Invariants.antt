-- The loop of `rounds::gain::is_new`.
use Rattle.std.proofs.Common.{◌*◌}
use Rattle.pairs.specs.Storage.{live, reached}
use Rattle.rounds.specs.Rows.{NoneNew}
use Rattle.rounds.proofs.gain.is_new.Given as goal

abbrev pub invariant-loop-j : goal.invariant-loop-j
invariant-loop-j l = NoneNew (live l.s) (reached l.s) (64 * l.j) l.b
