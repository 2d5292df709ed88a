-- The loops of `trace::order::order_of`.
use Rattle.std.proofs.Common.{◌+◌, ◌*◌}
use Rattle.trace.proofs.Listing.{Listing}
use Rattle.trace.proofs.order.order_of.Given as goal

abbrev pub invariant-loop-place : goal.invariant-loop-place
invariant-loop-place l = Listing l.lead l.n (7 * l.place) l.outputs.items

abbrev pub invariant-loop-s : goal.invariant-loop-s
invariant-loop-s l = Listing l.lead l.n (7 * l.place + l.s) l.outputs.items
