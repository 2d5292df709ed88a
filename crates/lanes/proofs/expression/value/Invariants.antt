-- The loop of `lanes::expression::value`.
use Rattle.std.proofs.Common.{◌≡◌, length}
use Rattle.lanes.proofs.ParseLaws.{Done}
use Rattle.lanes.proofs.expression.value.Given as goal

abbrev pub invariant-loop-e : goal.invariant-loop-e
invariant-loop-e g l = (length l.top ≡ g.row.W) × Done g.row.W l.reads.env l.reads.own l.expr l.initial.top l.st l.top l.used l.e-index
