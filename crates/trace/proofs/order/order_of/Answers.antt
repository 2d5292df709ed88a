-- `trace::order::order_of` meets its contract.
use Rattle.words.proofs.Bools.{contrary}
use Rattle.trace.proofs.Listing.{listing-skip, listing-push}
use Rattle.trace.proofs.order.order_of.Goals as goal
use Rattle.trace.proofs.order.order_of.Goals.{then-is_due, else-is_due}

pub loop-s-preserved : goal.loop-s-preserved
loop-s-preserved c =
    elim c.if-is_due.branch [
      | then-is_due w ↦ rw (w.outputs-is, w.push.ensures.items) (listing-push _ _ _ c.requires c.loop-place.place c.loop-s.s c.loop-s-test.true c.loop-s.invariant (c.is_due.ensures.0 w.if-is_due.true))
      | else-is_due w ↦ rw w.outputs-is (listing-skip _ _ _ c.requires c.loop-place.place c.loop-s.s c.loop-s-test.true c.loop-s.invariant (λ d. contrary (c.is_due.ensures.1 d) w.if-is_due.false))
    ]
