-- `preparation::start` meets its contract.
use Rattle.preparation.proofs.Searching.{started}
use Rattle.preparation.proofs.start.Goals as goal

pub returns : goal.returns
returns c = started _ _ _ _ _ c.clear_all.ensures c.join_ends.ensures
