-- `circular::reads::sheet_masks` meets its contract.
use Rattle.std.proofs.Common.{[], ◌∙◌, get_or, arith}
use lib.ListN.{length-set}
use Rattle.circular.specs.Masks.{MaskRow}
use Rattle.circular.proofs.Masks.{tells}
use Rattle.circular.proofs.Rows.{put-more}
use Rattle.circular.proofs.reads.sheet_masks.Goals as goal

pub loop-s-preserved : goal.loop-s-preserved
loop-s-preserved c = (
  length-set c.loop-s.masks c.loop-s.s c.masks_of.result ∙ c.loop-s.invariant.0,
  put-more (λ j x. MaskRow (get_or c.all_reads-words.result j 0) c.args.sheet.now.inputs x) [] c.loop-s.masks c.loop-s.s _ (omega arith) c.masks_of.ensures c.loop-s.invariant.1,
)

pub returns : goal.returns
returns c =
    tells c.args.sheet.now c.all_reads-words.result c.all_reads-words.ensures c.loop-s.masks (λ s h. c.loop-s.invariant.1 s (omega arith))
