-- The loop of `vectors::play`.
use Rattle.std.proofs.Common.{IfSome, ◌≤◌, ◌-◌, length}
use Rattle.line_scan.specs.Scan.{InTable}
use Rattle.vectors.proofs.play.Given as goal

abbrev pub invariant-loop-at : goal.invariant-loop-at
invariant-loop-at l = (l.at ≤ length l.session) × IfSome l.state (λ running. InTable running.pending)

abbrev pub decreases-loop-at : goal.decreases-loop-at
decreases-loop-at l = length l.session - l.at
