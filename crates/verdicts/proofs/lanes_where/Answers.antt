-- `verdicts::lanes_where` meets its contract.
use Rattle.std.proofs.Common.{ap, ◌∙◌}
use Rattle.words.specs.Bits.{bit}
use Rattle.words.proofs.BitLaws.{lane_less, lowest}
use Rattle.verdicts.proofs.VerdictLaws.{looking_start, looking_more, looking_done, lane_set, lane_kept}
use Rattle.verdicts.proofs.lanes_where.Goals.{then-test, else-test}
use Rattle.verdicts.proofs.lanes_where.Goals as goal

pub loop-rest-init : goal.loop-rest-init
loop-rest-init g c = λ G h. looking_start _ _ c.ranges.x.fits

pub loop-rest-smaller : goal.loop-rest-smaller
loop-rest-smaller g c = let l = lowest 64 _ c.loop-rest.auto.rest-fits.fits c.loop-rest-test.true in lane_less _ _ l.under_k l.is_set

pub loop-rest-preserved : goal.loop-rest-preserved
loop-rest-preserved g c = λ G h.
    let l = lowest 64 _ c.loop-rest.auto.rest-fits.fits c.loop-rest-test.true in
    looking_more _ _ _ _ _ _ c.test.result l.under_k l.is_set (h _ l.under_k _ c.test.ensures)
    (elim c.if-test.branch [
      | then-test w ↦ λ k. ap (bit k) w.word-is ∙ lane_set k _ _ _ l.under_k w.if-test.true
      | else-test w ↦ λ k. ap (bit k) w.word-is ∙ lane_kept k _ _ _ w.if-test.false
    ]) (c.loop-rest.invariant G h)

pub returns : goal.returns
returns g c = λ G h i l. looking_done _ _ _ _ c.loop-rest-test.false (c.loop-rest.invariant G h) i l
