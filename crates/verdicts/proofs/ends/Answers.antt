-- `verdicts::ends` meets its contract.
use Rattle.std.proofs.Common.{rules}
use Rattle.verdicts.proofs.VerdictLaws.{ends_lane}
use Rattle.verdicts.proofs.ends.Goals as goal

pub returns : goal.returns
returns c = c.row_by.ensures _ (λ j h x p i l. search (rules, ends_lane))
