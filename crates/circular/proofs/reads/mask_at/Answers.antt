-- `circular::reads::mask_at` meets its contract.
use Rattle.circular.proofs.Masks.{mask-bits}
use Rattle.circular.proofs.reads.mask_at.Goals as goal

pub returns : goal.returns
returns c = mask-bits _ _ _ _ c.streams_at.ensures c.streams_at-2.ensures c.streams_at-3.ensures _ _ (cc)
