-- `preparation::join_word` meets its contract.
use Rattle.std.proofs.Common.{arith}
use Rattle.words.proofs.BitLaws.{lane_less}
use Rattle.preparation.proofs.Joining.{lanes_next, lanes-more, lanes_all}
use Rattle.preparation.proofs.join_word.Goals as goal

pub loop-rest-smaller : goal.loop-rest-smaller
loop-rest-smaller c =
    let l = lanes_next _ _ _ _ _ _ _ c.loop-rest.invariant.0 c.loop-rest-test.true in lane_less _ _ l.under_k l.is_set

pub loop-rest-preserved : goal.loop-rest-preserved
loop-rest-preserved c =
    let l = lanes_next _ _ _ _ _ _ _ c.loop-rest.invariant.0 c.loop-rest-test.true in (
      lanes-more _ _ _ _ _ _ _ c.loop-rest.invariant.0 _ _ l.under_k l.is_set c.join.ensures.joins,
      λ w h g o. c.join.ensures.by_index w h (omega (arith, l.under_k)) (c.loop-rest.invariant.1 w h g o),
    )

pub returns : goal.returns
returns c = record { joins = lanes_all _ _ _ _ _ _ _ c.loop-rest.invariant.0 c.loop-rest-test.false; by_index = c.loop-rest.invariant.1 }
