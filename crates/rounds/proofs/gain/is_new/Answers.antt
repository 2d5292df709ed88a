-- `rounds::gain::is_new` meets its contract.
use Rattle.std.proofs.Common.{arith}
use Rattle.rounds.proofs.WordLaws.{none_new_more}
use Rattle.rounds.proofs.gain.is_new.Goals as goal

pub loop-j-preserved : goal.loop-j-preserved
loop-j-preserved c = none_new_more _ _ _ _ _ _ c.loop-j-test.true c.loop-j.invariant c.row_word-live.ensures c.row_word.ensures (omega arith) c.if-live-row_word-ne0.false
