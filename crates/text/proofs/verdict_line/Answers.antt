-- A character more is written in each turn.
use Rattle.std.proofs.Common.{arith}
use lib.Seq.{take_all}
use Rattle.buffer.proofs.PlacedLaws.{placed_then}
use Rattle.text.proofs.VerdictLaws.{placed_verdict}
use Rattle.text.proofs.verdict_line.Goals as goal

pub loop-verdict-preserved : goal.loop-verdict-preserved
loop-verdict-preserved c = (
  omega (arith, c.byte-to.ensures.end),
  placed_verdict c.args.verdicts.now c.loop-verdict.verdict-index (omega arith) c.loop-verdict.invariant.1
      (rw (← c.verdict_char.ensures) c.byte-to.ensures),
)

pub returns-clause-placed : goal.returns-clause-placed
returns-clause-placed c =
    placed_then (rw (take_all c.loop-verdict.verdict-index c.args.verdicts.now c.loop-verdict-test.false) at c.loop-verdict.invariant.1) c.byte.ensures
