-- The loop of `rounds::group::is_quiet`.
use Rattle.rounds.proofs.WordLaws.{Joining}
use Rattle.rounds.proofs.group.is_quiet.Given as goal

abbrev pub invariant-loop-word : goal.invariant-loop-word
invariant-loop-word l = Joining l.word-items l.any l.word-index
