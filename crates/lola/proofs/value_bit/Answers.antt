-- `lola::value_bit` meets its contract.
use Rattle.std.proofs.Common.{arith}
use Rattle.lola.proofs.Stack.{none_done, one-done, fits, all_done}
use Rattle.lola.proofs.value_bit.Goals as goal

pub loop-byte-init : goal.loop-byte-init
loop-byte-init c = none_done _ _

pub step_bit-stack-requires : goal.step_bit-stack-requires
step_bit-stack-requires c = fits _ _ c.loop-byte.invariant.small (omega arith)

pub loop-byte-preserved : goal.loop-byte-preserved
loop-byte-preserved c = one-done _ _ _ _ _ (omega arith) c.loop-byte.invariant c.step_bit-stack.ensures

pub returns : goal.returns
returns c = all_done _ _ _ _ (omega arith) c.loop-byte.invariant
