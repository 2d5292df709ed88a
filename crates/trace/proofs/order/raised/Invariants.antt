-- The loop of `trace::order::raised`.
use Rattle.trace.specs.Order.{Raised}
use Rattle.trace.proofs.order.raised.Given as goal

abbrev pub invariant-loop-q : goal.invariant-loop-q
invariant-loop-q l = Raised l.masks l.old l.q l.up l.settled l.s l.lead
