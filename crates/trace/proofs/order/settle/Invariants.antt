-- The loop of `trace::order::settle`.
use Rattle.trace.specs.Order.{Settled}
use Rattle.trace.proofs.order.settle.Given as goal

abbrev pub invariant-loop-s : goal.invariant-loop-s
invariant-loop-s l = Settled l.lead l.settled l.set
