-- `trace::sweep::refresh_round` meets its contract.
use Rattle.words.proofs.Bools.{or-none}
use Rattle.trace.proofs.Passes.{passed_then, passed-one, next_place}
use Rattle.trace.proofs.sweep.refresh_round.Goals as goal

pub loop-s-preserved : goal.loop-s-preserved
loop-s-preserved c =
    passed_then _ _ _ _ _ _ _ _ _ _ _ _ (λ q u pl h. next_place _ _ q u h) (or-none _ _) c.loop-s.invariant
    (passed-one _ _ _ _ _ _ _ _ c.refresh-changed.ensures.0 c.refresh-changed.ensures.1)
