-- A line more is written in each turn.
use Rattle.std.proofs.Common.{arith}
use Rattle.buffer.proofs.DecimalLaws.{word_digits}
use Rattle.letter_table.proofs.TextLaws.{placed_no_line, placed_line}
use Rattle.letter_table.proofs.LetterTable.table_text.Goals as goal

pub loop-e-init : goal.loop-e-init
loop-e-init c = (omega arith, placed_no_line _ _ (omega arith))

pub loop-e-preserved : goal.loop-e-preserved
loop-e-preserved c = (
  omega (arith, c.byte-to.ensures.end, c.decimal-digits.ensures.end, word_digits c.entry.result (omega arith)),
  placed_line c.loop-e.e c.entry.result c.entry.ensures c.loop-e.invariant.1 c.decimal-digits.ensures c.byte-to.ensures,
)
