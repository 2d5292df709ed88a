-- The space, then the number.
use Rattle.buffer.proofs.PlacedLaws.{placed_then}
use Rattle.text.proofs.spaced.Goals as goal

pub returns-clause-placed : goal.returns-clause-placed
returns-clause-placed c = placed_then c.byte-to.ensures (rw c.from.ensures at c.decimal.ensures)
