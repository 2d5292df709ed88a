-- `rounds::hear` meets its contract.
use Rattle.std.proofs.Common.{arith}
use Rattle.rounds.proofs.RoundLaws.{heard-none, heard-more, heard_all}
use Rattle.rounds.proofs.hear.Goals as goal

pub loop-j-init : goal.loop-j-init
loop-j-init c = heard-none _ _ _

pub loop-j-preserved : goal.loop-j-preserved
loop-j-preserved c = heard-more _ _ _ _ _ _ _ c.loop-j.invariant c.lanes_below.ensures c.insert_word.ensures

pub returns : goal.returns
returns c = heard_all _ _ _ _ _ _ (omega arith) c.loop-j-test.false c.loop-j.invariant
