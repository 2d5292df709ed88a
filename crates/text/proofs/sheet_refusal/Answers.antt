-- One text after another.
use Rattle.buffer.proofs.PlacedLaws.{placed_then}
use Rattle.text.proofs.sheet_refusal.Goals as goal

pub returns-clause-placed : goal.returns-clause-placed
returns-clause-placed c = placed_then c.refused-start.ensures.placed (placed_then c.bytes-word.ensures c.byte.ensures)
