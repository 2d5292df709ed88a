-- `words::stream_word` meets its contract.
use mathlib.Core.Path.{◌∙◌}
use native.Mathlib.Omega.{arith}
use Rattle.words.proofs.LaneLaws.{stream_at, stream_high}
use Rattle.words.proofs.stream_word.Goals as goal

pub returns-then-q-ge6 : goal.returns-then-q-ge6
returns-then-q-ge6 c = λ i h. c.spread.ensures i h ∙ stream_high _ _ i c.if-q-ge6.true c.requires.0 c.requires.1 h

pub returns-in-0 : goal.returns-in-0
returns-in-0 c = λ i h. stream_at 0 _ _ i c.in-0.is (omega arith) h

pub returns-in-1 : goal.returns-in-1
returns-in-1 c = λ i h. stream_at 1 _ _ i c.in-1.is (omega arith) h

pub returns-in-2 : goal.returns-in-2
returns-in-2 c = λ i h. stream_at 2 _ _ i c.in-2.is (omega arith) h

pub returns-in-3 : goal.returns-in-3
returns-in-3 c = λ i h. stream_at 3 _ _ i c.in-3.is (omega arith) h

pub returns-in-4 : goal.returns-in-4
returns-in-4 c = λ i h. stream_at 4 _ _ i c.in-4.is (omega arith) h

pub returns-in_default : goal.returns-in_default
returns-in_default c = λ i h. stream_at 5 _ _ i (omega arith) (omega arith) h
