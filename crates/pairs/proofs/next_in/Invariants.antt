-- The loop of `pairs::next_in`.
use Rattle.std.proofs.Common.{◌*◌}
use Rattle.pairs.proofs.BitSearch.{NoneBelow}
use Rattle.pairs.proofs.next_in.Given as goal

abbrev pub invariant-loop-j : goal.invariant-loop-j
invariant-loop-j l = NoneBelow l.words l.from (64 * l.j)
