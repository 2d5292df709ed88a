-- `words::agree` meets its contract.
use mathlib.Core.Path.{◌∙◌}
use Rattle.words.specs.Bits.{bit}
use Rattle.words.proofs.BitLaws.{bit_not}
use Rattle.words.proofs.LaneLaws.{beq_true, beq_false}
use Rattle.words.proofs.agree.Goals as goal

pub returns-then-v : goal.returns-then-v
returns-then-v c = λ i h. rw c.if-v.true (beq_true (bit i c.args.x))

pub returns-else-v : goal.returns-else-v
returns-else-v c = λ i h. bit_not 64 i c.args.x h c.ranges.x.fits ∙ rw c.if-v.false (beq_false (bit i c.args.x))
