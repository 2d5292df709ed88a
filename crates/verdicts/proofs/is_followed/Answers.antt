-- `verdicts::is_followed` meets its contract.
use Rattle.verdicts.proofs.VerdictLaws.{row_member}
use Rattle.verdicts.proofs.is_followed.Goals as goal

pub returns : goal.returns
returns c = row_member _ _ _ _ _ _ c.args.size.sized.wide c.row_lanes.ensures c.lanes_below.ensures c.row_lanes.type_inv c.lanes_below.type_inv
