-- `slices::rounds_by` meets its contract.
use native.Mathlib.Omega.{arith}
use borrow.Author.Tests.{lt-ltb, le-ltb}
use Rattle.slices.proofs.rounds_by.Goals as goal

pub returns-then-mark-gt1 : goal.returns-then-mark-gt1
returns-then-mark-gt1 c = rw (lt-ltb 1 c.args.mark (omega arith))

pub returns : goal.returns
returns c = rw (le-ltb 1 c.args.mark (omega arith))
