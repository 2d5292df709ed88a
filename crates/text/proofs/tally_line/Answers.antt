-- One text after another.
use Rattle.buffer.proofs.PlacedLaws.{placed_then}
use Rattle.text.specs.Text.{tally_line}
use Rattle.text.proofs.TallyLaws.{placed_trues}
use Rattle.text.proofs.tally_line.Goals as goal

pub returns-clause-placed : goal.returns-clause-placed
unfolding tally_line
returns-clause-placed c =
    placed_then c.output_number-output.ensures.placed
    (placed_then (placed_trues c.args.counts.now c.args.k.0 c.spaced-trues.ensures.placed)
    (placed_then c.spaced-falses.ensures.placed
    (placed_then c.spaced-opens.ensures.placed
    (placed_then c.spaced-brokens.ensures.placed (placed_then c.spaced-share.ensures.placed c.byte.ensures)))))
