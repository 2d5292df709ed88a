-- `rounds::row_lanes` meets its contract.
use Rattle.pairs.specs.Storage.{stored}
use Rattle.pairs.specs.Changes.{base_of}
use Rattle.rounds.proofs.WordLaws.{lanes_none}
use Rattle.rounds.proofs.row_lanes.Goals as goal

pub returns-in-0 : goal.returns-in-0
returns-in-0 c = rw c.in-0.is ((lanes_none (stored c.args.s.now (base_of c.args.set)) c.args.a).joined)
