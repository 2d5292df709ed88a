-- The verdicts, then the tallies.
use Rattle.buffer.proofs.PlacedLaws.{placed_then}
use Rattle.text.proofs.closing.Goals as goal

pub returns-clause-placed : goal.returns-clause-placed
returns-clause-placed c =
    placed_then c.byte-start.ensures (placed_then c.verdict_line-line.ensures.placed c.tally_lines.ensures.placed)
