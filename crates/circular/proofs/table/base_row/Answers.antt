-- `circular::table::base_row` meets its contract.
use Rattle.std.proofs.Common.{◌∙◌, arith}
use Rattle.circular.proofs.Codes.{base_le, base_same}
use Rattle.circular.proofs.Rows.{front-more, small-front, small_zeros}
use Rattle.circular.proofs.table.base_row.Goals as goal

pub loop-q-preserved : goal.loop-q-preserved
loop-q-preserved c =
    front-more _ _ c.loop-q.q _ _ (omega (arith, c.loop-q.invariant.same_length))
    (c.base.ensures ∙ base_same _ _ _ (rw c.stream_of-stream.ensures at c.mask_at.ensures).bits) c.loop-q.invariant

pub returns : goal.returns
returns c =
    record { small = small-front _ _ _ _ c.loop-q.invariant (λ q h. base_le _ _) small_zeros; cells = λ q h. c.loop-q.invariant.done q (omega arith) }
