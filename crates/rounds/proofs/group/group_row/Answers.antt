-- `rounds::group::group_row` meets its contract.
use Rattle.rounds.proofs.RowLaws.{sparse_noted}
use Rattle.rounds.proofs.WordLaws.{unheard-row}
use Rattle.rounds.proofs.group.group_row.Goals as goal

pub returns-then-row_lanes-letters-eq0 : goal.returns-then-row_lanes-letters-eq0
returns-then-row_lanes-letters-eq0 c =
    record { joined = unheard-row _ _ _ _ c.requires.1 _ _ c.row_lanes.ensures c.if-row_lanes-letters-eq0.true; sparse = λ v h f. f }

pub returns : goal.returns
returns c = record { joined = c.join_row.ensures; sparse = sparse_noted _ _ _ _ _ _ c.join_row.ensures c.note.ensures }
