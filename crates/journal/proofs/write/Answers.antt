-- What a write took has gone out, and a call that moved nothing is made again.
use Rattle.std.proofs.Common.{◌+◌, ◌-◌, ◌≤◌, arith, refl, drop, length-take}
use Rattle.dialogue.proofs.Talking.{asked-again}
use Rattle.journal.proofs.Turning.{unmoved_write}
use Rattle.journal.proofs.write.Goals as goal

pub returns-then-n-eq0-clause-wrote : goal.returns-then-n-eq0-clause-wrote
returns-then-n-eq0-clause-wrote c = λ t sheet h talks. asked-again sheet c.args.d.now t c.args.out.now h talks

pub returns-else-n-eq0-clause-wrote : goal.returns-else-n-eq0-clause-wrote
returns-else-n-eq0-clause-wrote c =
    let most : c.args.d.now.from + c.in-Moved.n ≤ c.args.d.now.to =
    omega (arith, c.requires, c.in-Moved.ensures, length-take (c.args.d.now.to - c.args.d.now.from) (drop c.args.d.now.from c.args.out.now)) in
    λ t. c.told-d.ensures.told c.args.d.now refl most t c.args.out.now

pub returns-in_default : goal.returns-in_default
returns-in_default c =
    record { wrote = unmoved_write c.args.d.now c.args.out.now c.write-reply.result c.in_default.not-Moved; within = (c.requires, refl) }
