-- `preparation::join_row` meets its contract.
use Rattle.std.proofs.Common.{arith}
use Rattle.preparation.proofs.Joining.{words-first, words_more, words-all}
use Rattle.preparation.proofs.join_row.Goals as goal

pub loop-j-init : goal.loop-j-init
loop-j-init c = (words-first _ _ _ _, λ o. o)

pub loop-j-preserved : goal.loop-j-preserved
loop-j-preserved c = (
  words_more _ _ _ _ _ _ _ c.loop-j.invariant.0 c.join_word.ensures.joins,
  λ o. c.join_word.ensures.by_index _ c.requires.0 c.loop-j-test.true (c.loop-j.invariant.1 o),
)

pub returns : goal.returns
returns c = record { joins = words-all _ _ _ _ _ _ _ (omega arith) c.loop-j.invariant.0; occupied = c.loop-j.invariant.1 }
