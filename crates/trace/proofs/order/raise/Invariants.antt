-- The loop of `trace::order::raise`.
use Rattle.std.proofs.Common.{◌≡◌, ℕ, ◌<◌, length, get_or}
use Rattle.trace.specs.Order.{Raised}
use Rattle.trace.proofs.order.raise.Given as goal

abbrev pub invariant-loop-s : goal.invariant-loop-s
invariant-loop-s l = (length l.lead ≡ 7) × ((i : ℕ) → i < l.s → Raised l.masks l.old l.n l.up l.settled i (get_or l.lead i 0))
