-- `monitor::refused_preparation` meets its contract.
use mathlib.Core.Path.{refl}
use native.Mathlib.Omega.{arith}
use Rattle.monitor.proofs.refused_preparation.Goals as goal

pub returns : goal.returns
returns c = (refl, c.fresh.ensures, omega arith, omega arith)
