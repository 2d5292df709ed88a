-- `lanes::row::keep_row` meets its contract.
use Rattle.std.proofs.Common.{ap, ◌∙◌, ◌&&◌, arith, get_or}
use mathlib.Core.Path.{ap₂}
use Rattle.std.specs.Bool.{beq}
use Rattle.words.specs.Bits.{bit}
use Rattle.words.proofs.BitLaws.{bit-and}
use Rattle.lanes.proofs.RowLaws.{writing_more}
use Rattle.lanes.proofs.row.keep_row.Goals as goal

pub loop-j-preserved : goal.loop-j-preserved
loop-j-preserved g c =
    writing_more _ _ _ _ _ _ c.loop-j.invariant c.loop-j-test.true
    (λ i h.
    bit-and i (get_or c.loop-j.acc c.loop-j.j 0) c.alike.result
    ∙ ap₂ ◌&&◌ (ap (bit i) (c.loop-j.invariant.rest _ (omega arith)))
    (c.alike.ensures i h ∙ ap (beq (bit i (get_or c.args.x.now c.loop-j.j 0))) (c.here_word.ensures i h)))
