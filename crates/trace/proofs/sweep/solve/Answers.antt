-- `trace::sweep::solve` meets its contract.
use Rattle.trace.proofs.Solving.{solved_all}
use Rattle.trace.proofs.sweep.solve.Goals as goal

pub returns-else-not-sweeps : goal.returns-else-not-sweeps
returns-else-not-sweeps c = solved_all c.sweeps.ensures c.requires.1 c.if-not-sweeps.false
