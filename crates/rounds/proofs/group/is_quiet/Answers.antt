-- `rounds::group::is_quiet` meets its contract.
use Rattle.std.proofs.Common.{arith}
use borrow.Author.Tests.{eqb-true}
use Rattle.rounds.proofs.WordLaws.{joining-more, joining-quiet}
use Rattle.rounds.proofs.group.is_quiet.Goals as goal

pub loop-word-preserved : goal.loop-word-preserved
loop-word-preserved c = joining-more _ _ _ c.loop-word.invariant

pub returns : goal.returns
returns c = λ e. joining-quiet _ _ _ _ _ (omega (arith, c.loop-word-test.false, c.rows-word-items.ensures.0)) (eqb-true _ _ e) c.rows-word-items.ensures.1 c.loop-word.invariant
