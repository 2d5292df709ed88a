-- `verdicts::output_test` meets its contract.
use Rattle.std.proofs.Common.{◌+◌, arith, rules}
use Rattle.words.specs.Bits.{bit}
use Rattle.verdicts.proofs.output_test.Goals as goal

-- all four words are filled, and the valuations take some of them
pub returns : goal.returns
returns c = λ b h. c.row_by.ensures (bit (c.args.size.inputs + c.args.k.0)) (λ j i x p. search rules) b (omega (arith, h, c.args.size.sized.wide.most))
