-- The loop of `LetterTable::table_text`.
use Rattle.std.proofs.Common.{◌*◌, ◌≤◌}
use Rattle.buffer.specs.Wrote.{Placed}
use Rattle.letter_table.specs.Entry.{table_text}
use Rattle.letter_table.proofs.LetterTable.table_text.Given as goal

abbrev pub invariant-loop-e : goal.invariant-loop-e
invariant-loop-e l = (l.to ≤ 21 * l.e) × Placed l.initial.out 0 (table_text 0 l.e) l.out l.to
