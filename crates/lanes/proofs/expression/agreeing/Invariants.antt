-- The loop of `lanes::expression::agreeing`.
use Rattle.std.proofs.Common.{◌≡◌, length}
use Rattle.lanes.specs.Coded.{Agree}
use Rattle.lanes.proofs.expression.agreeing.Given as goal

abbrev pub invariant-loop-k : goal.invariant-loop-k
invariant-loop-k g l =
    (length l.acc ≡ g.row.W) × (length l.x ≡ g.row.W) × (length l.st ≡ length l.initial.st) × Agree g.row.W l.reads.env l.reads.own l.equations.size.inputs l.equations.size.outputs l.equations.code.now l.equations.len.now l.reads.round l.acc l.k
