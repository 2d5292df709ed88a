-- The loop of `sheet::read_expression`.
use Rattle.std.proofs.Common.{◌≤◌}
use Rattle.sheet.proofs.Depths.{DepthTo}
use Rattle.sheet.proofs.read_expression.Given as goal

abbrev pub invariant-loop-byte : goal.invariant-loop-byte
invariant-loop-byte l = record { low : l.depth ≤ l.byte-index; on : DepthTo l.grammar l.e l.depth l.byte-index }
