-- The loop of `lola::value_bit`.
use Rattle.lola.proofs.Stack.{Done}
use Rattle.lola.proofs.value_bit.Given as goal

abbrev pub invariant-loop-byte : goal.invariant-loop-byte
invariant-loop-byte l = Done l.env l.e l.stack l.byte-index
