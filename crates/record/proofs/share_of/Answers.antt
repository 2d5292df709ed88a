-- `record::share_of` meets its contract.
use mathlib.Core.Path.{sym}
use Prim.Native.Nat.{◌*◌}
use native.Mathlib.Omega.{arith}
use native.Mathlib.Nat.{mod-lt}
use Rattle.record.proofs.Tallies.{share-more, share-same, quotient_small}
use Rattle.record.proofs.share_of.Goals as goal

pub overflow_cast-q : goal.overflow_cast-q
overflow_cast-q c = omega (arith, quotient_small c.args.trues c.args.rounds (omega arith))

pub overflow_mul-r : goal.overflow_mul-r
overflow_mul-r c = omega (arith, mod-lt (1000 * c.args.trues) {m = c.args.rounds} (omega arith))

pub overflow_add-r : goal.overflow_add-r
overflow_add-r c = omega (arith, mod-lt (1000 * c.args.trues) {m = c.args.rounds} (omega arith))

pub overflow_add-result : goal.overflow_add-result
overflow_add-result c = omega (arith, quotient_small c.args.trues c.args.rounds (omega arith))

pub returns-then-whole-r : goal.returns-then-whole-r
returns-then-whole-r c = sym (share-more c.args.trues c.args.rounds (omega arith))

pub returns : goal.returns
returns c = sym (share-same c.args.trues c.args.rounds (omega arith))
