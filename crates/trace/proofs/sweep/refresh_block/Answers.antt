-- `trace::sweep::refresh_block` meets its contract.
use Rattle.std.proofs.Common.{refl}
use Rattle.trace.proofs.Sweeps.{sweeps-then, block-one, block-skip}
use Rattle.trace.proofs.sweep.refresh_block.Goals as goal
use Rattle.trace.proofs.sweep.refresh_block.Goals.{in-Some, in_default}

pub loop-s-preserved : goal.loop-s-preserved
loop-s-preserved c =
    elim c.match-round_in.branch [
      | in-Some w ↦ rw w.buf-is (sweeps-then _ _ _ _ _ _ _ _ _ _ _ c.loop-s.invariant (block-one _ _ _ _ _ _ _ c.requires.1 c.loop-s.s-index _ c.loop-s-test.true refl _ _ _ w.in-Some.ensures w.refresh.ensures.0))
      | in_default w ↦ rw w.buf-is (sweeps-then _ _ _ _ _ _ _ _ _ _ _ c.loop-s.invariant (block-skip _ _ _ _ _ _ _ c.requires.1 c.loop-s.s-index _ c.loop-s-test.true refl _ w.in_default.ensures))
    ]
