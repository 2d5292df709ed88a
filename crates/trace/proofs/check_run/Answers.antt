-- `trace::check_run` meets its contract.
use Rattle.std.proofs.Common.{arith}
use Rattle.trace.proofs.Decided.{letter-broken, run-accepted, none-bad}
use Rattle.trace.proofs.check_run.Goals as goal

pub returns-then-has_bad_letter-clause-decided : goal.returns-then-has_bad_letter-clause-decided
returns-then-has_bad_letter-clause-decided c = letter-broken _ _ _ (omega arith) (omega arith) (omega arith) (c.has_bad_letter.ensures.0 c.if-has_bad_letter.true)

pub returns-clause-decided : goal.returns-clause-decided
returns-clause-decided c = run-accepted _ _ _ (omega arith) (omega arith) (omega arith) (none-bad _ _ _ c.has_bad_letter.ensures.1 c.if-has_bad_letter.false)
