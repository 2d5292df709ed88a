-- `trace::place::refresh` meets its contract.
use Rattle.trace.proofs.Rounds.{place-value}
use Rattle.trace.proofs.Passes.{renewed-put}
use Rattle.trace.proofs.place.refresh.Goals as goal

pub returns : goal.returns
returns c =
    let right = place-value c.args.sheet.now _ _ _ _ _ _ c.requires.1 c.environment-env.ensures (rw c.expression.ensures at c.value_bit-v.ensures) in
    (renewed-put _ _ _ _ _ _ _ _ c.put_bit.ensures c.requires.2 c.requires.1 right, c.put_bit.ensures.same)
