-- `lanes::Equations::earlier_mask` meets its contract.
use Rattle.lanes.proofs.BlindLaws.{covers_none, covers_more, covers_all, blind}
use Rattle.lanes.proofs.Equations.earlier_mask.Goals as goal

pub loop-k-init : goal.loop-k-init
loop-k-init c = covers_none _ _ _ _

pub loop-k-preserved : goal.loop-k-preserved
loop-k-preserved c = covers_more _ _ _ _ _ _ _ _ c.args.self.now.coded c.loop-k-test.true c.expression.ensures.bytes c.loop-k.invariant c.expression_reads-reads.ensures

pub returns : goal.returns
returns c = blind _ _ _ _ c.args.self.now.coded _ _ (covers_all _ _ _ _ _ _ c.loop-k-test.false c.loop-k.invariant) c.streams_at.ensures
