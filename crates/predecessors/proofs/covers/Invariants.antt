-- The loop of `predecessors::covers`.
use Rattle.predecessors.proofs.Rows.{Covering}
use Rattle.predecessors.proofs.covers.Given as goal

abbrev pub invariant-loop-j : goal.invariant-loop-j
invariant-loop-j l = Covering l.row l.ok l.j
