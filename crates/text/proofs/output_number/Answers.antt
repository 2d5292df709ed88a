-- One digit, as there are at most seven outputs.
use Rattle.std.proofs.Common.{length, ap, arith}
use Rattle.buffer.proofs.PlacedLaws.{placed_then}
use Rattle.buffer.proofs.DecimalLaws.{decimal-small}
use Rattle.text.proofs.output_number.Goals as goal

pub returns-clause-placed : goal.returns-clause-placed
returns-clause-placed c = placed_then c.byte-to.ensures (rw c.from.ensures at c.spaced.ensures.placed)

pub returns-clause-value : goal.returns-clause-value
returns-clause-value c =
    let w = placed_then c.byte-to.ensures (rw c.from.ensures at c.spaced.ensures.placed) in
    omega (arith, w.end, ap length (decimal-small c.args.k.0 (omega arith)))
