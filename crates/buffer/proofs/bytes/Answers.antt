-- One byte more is written in each turn.
use Rattle.std.proofs.Common.{arith}
use Rattle.buffer.proofs.PlacedLaws.{placed_next}
use Rattle.buffer.proofs.bytes.Goals as goal

pub loop-b-preserved : goal.loop-b-preserved
loop-b-preserved c =
    (omega (arith, c.byte-to.ensures.end), placed_next _ c.loop-b.b-index (omega arith) c.loop-b.invariant.1 c.byte-to.ensures)
