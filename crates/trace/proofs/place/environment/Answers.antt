-- `trace::place::environment` meets its contract.
use native.Mathlib.Omega.{arith}
use Rattle.trace.proofs.Rounds.{environment_of}
use Rattle.trace.proofs.place.environment.Goals as goal

pub returns : goal.returns
returns c = environment_of _ _ _ _ _ _ _ (omega arith) (omega arith) c.round_twice-current.ensures c.round_twice-earlier.ensures c.round_twice-later.ensures
