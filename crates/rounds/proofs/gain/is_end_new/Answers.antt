-- `rounds::gain::is_end_new` meets its contract.
use Rattle.std.proofs.Common.{arith}
use Rattle.rounds.proofs.EndLaws.{no_end_more}
use Rattle.rounds.proofs.gain.is_end_new.Goals as goal

pub loop-j-preserved : goal.loop-j-preserved
loop-j-preserved c = no_end_more _ _ _ _ _ _ c.loop-j.invariant c.row_word-heard.ensures c.ends_word-live.ensures c.ends_word.ensures (omega arith) c.if-heard-live-ne0.false
