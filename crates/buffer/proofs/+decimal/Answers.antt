-- `buffer::decimal` meets its contract.
use Rattle.std.proofs.Common.{length, ap, arith}
use Rattle.buffer.proofs.PlacedLaws.{placed_then}
use Rattle.buffer.proofs.DecimalLaws.{decimal-small, decimal_large, decimal_large_length}
use Rattle.buffer.proofs.+decimal.Goals as goal

pub byte-requires : goal.byte-requires
byte-requires t c = omega (arith, ap length (decimal-small c.args.n c.if-n-lt10.true))

pub decimal-to-requires : goal.decimal-to-requires
decimal-to-requires t c = (omega arith, omega (arith, decimal_large_length c.args.n c.if-n-lt10.false (omega arith)))

pub byte-requires-else-n-lt10 : goal.byte-requires-else-n-lt10
byte-requires-else-n-lt10 t c =
    omega (arith, c.decimal-to.ensures.end, c.decimal-to.ensures.size, decimal_large_length c.args.n c.if-n-lt10.false (omega arith))

pub returns-then-n-lt10 : goal.returns-then-n-lt10
returns-then-n-lt10 t c = rw (decimal-small c.args.n c.if-n-lt10.true) c.byte.ensures

pub returns-else-n-lt10 : goal.returns-else-n-lt10
returns-else-n-lt10 t c =
    rw (decimal_large c.args.n c.if-n-lt10.false (omega arith)) (placed_then c.decimal-to.ensures c.byte-else-n-lt10.ensures)
