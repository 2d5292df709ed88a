-- A line more is written in each turn.
use Rattle.std.proofs.Common.{arith}
use Rattle.text.proofs.TallyLaws.{placed_no_tally, placed_tally}
use Rattle.text.proofs.tally_lines.Goals as goal

pub loop-k-init : goal.loop-k-init
loop-k-init c = (omega arith, placed_no_tally _ _ _ _ (omega arith))

pub loop-k-preserved : goal.loop-k-preserved
loop-k-preserved c =
    (omega (arith, c.tally_line-to.ensures.upper_bound), placed_tally _ _ c.loop-k.k c.loop-k.invariant.1 c.tally_line-to.ensures.placed)
