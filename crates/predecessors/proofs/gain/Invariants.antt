-- The loop of `predecessors::gain`.
use Rattle.std.proofs.Common.{◌&&◌, ◌||◌}
use Rattle.pairs.specs.Changes.{row_bit}
use Rattle.predecessors.proofs.Rows.{LanesTo}
use Rattle.predecessors.proofs.gain.Given as goal

abbrev pub invariant-loop-j : goal.invariant-loop-j
invariant-loop-j l = LanesTo l.initial.row l.row (λ a u. u || (row_bit l.ok 0 a && row_bit l.x 0 a)) l.j
