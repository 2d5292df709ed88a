-- `lanes::row::not_row` meets its contract.
use Rattle.std.proofs.Common.{ap, ◌∙◌, not, ℕ, arith}
use Rattle.words.specs.Bits.{bit}
use Rattle.words.proofs.BitLaws.{bit_not}
use Rattle.lanes.proofs.RowLaws.{writing_more}
use Rattle.lanes.proofs.row.not_row.Goals as goal

pub loop-word-preserved : goal.loop-word-preserved
loop-word-preserved g c = writing_more _ _ _ _ _ _ c.loop-word.invariant c.loop-word-test.true (λ i h. bit_not 64 i _ h (omega arith) ∙ ap (λ (z : ℕ). not (bit i z)) (c.loop-word.invariant.rest _ (omega arith)))
