-- The loop of `rounds::joined`.
use Rattle.pairs.specs.Storage.{stored}
use Rattle.pairs.specs.Changes.{base_of}
use Rattle.rounds.proofs.WordLaws.{Lanes}
use Rattle.rounds.proofs.joined.Given as goal

abbrev pub invariant-loop-j : goal.invariant-loop-j
invariant-loop-j g l = Lanes (stored l.s (base_of l.set)) l.a l.lanes l.j
