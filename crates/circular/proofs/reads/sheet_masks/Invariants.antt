-- The loop of `circular::reads::sheet_masks`.
use Rattle.std.proofs.Common.{◌≡◌, ℕ, ◌<◌, length, get_or}
use Rattle.circular.specs.Table.{row_of}
use Rattle.circular.specs.Masks.{MaskRow}
use Rattle.circular.proofs.reads.sheet_masks.Given as goal

abbrev pub invariant-loop-s : goal.invariant-loop-s
invariant-loop-s l = (length l.masks ≡ 7) × ((j : ℕ) → j < l.s → MaskRow (get_or l.words j 0) l.sheet.inputs (row_of l.masks j))
