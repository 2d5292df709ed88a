-- The calls ran out.
use Rattle.std.proofs.Common.{arith}
use Rattle.dialogue.proofs.Talking.{ends-early}
use Rattle.journal.proofs.run.Goals as goal

pub returns : goal.returns
returns c = λ sheet talks.
    let k = c.loop-calls.invariant.talks sheet talks in (k.0, omega (arith, k.1), k.2, ends-early sheet _ _ _ k.0 k.2)
