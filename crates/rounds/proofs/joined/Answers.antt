-- `rounds::joined` meets its contract.
use Rattle.rounds.proofs.WordLaws.{lanes_none, lanes_more}
use Rattle.rounds.proofs.joined.Goals as goal

pub loop-j-init : goal.loop-j-init
loop-j-init g c = lanes_none _ _

pub loop-j-preserved : goal.loop-j-preserved
loop-j-preserved g c = lanes_more _ _ _ _ _ c.loop-j.invariant c.row_word-lanes.ensures
