-- `words::spread` meets its contract.
use mathlib.Core.Path.{sym, ◌∙◌}
use Rattle.words.proofs.BitLaws.{bit-all, bit-none}
use Rattle.words.proofs.spread.Goals as goal

pub returns-then-x : goal.returns-then-x
returns-then-x c = λ i h. bit-all 64 i h ∙ sym c.if-x.true

pub returns-else-x : goal.returns-else-x
returns-else-x c = λ i h. bit-none i ∙ sym c.if-x.false
