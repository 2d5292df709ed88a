-- `rounds::group::join_row` meets its contract.
use Rattle.std.proofs.Common.{arith}
use Rattle.rounds.proofs.WordLaws.{joined-none, joined-more, joined-all}
use Rattle.rounds.proofs.group.join_row.Goals as goal

pub loop-j-init : goal.loop-j-init
loop-j-init c = joined-none _ _ _ _ c.requires.1

pub loop-j-preserved : goal.loop-j-preserved
loop-j-preserved c = joined-more _ _ _ _ c.requires.1 _ _ _ _ (omega arith) c.row_word-x.ensures c.loop-j.invariant c.insert_word.ensures

pub returns : goal.returns
returns c = joined-all _ _ _ _ c.requires.1 _ _ _ (omega arith) c.loop-j-test.false c.loop-j.invariant
