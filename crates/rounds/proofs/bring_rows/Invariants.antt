-- The loop of `rounds::bring_rows`.
use Rattle.std.proofs.Common.{◌≡◌, List, length, ℕ, ◌-◌, ◌≤◌}
use Rattle.pairs.specs.Storage.{live, scratch, reached_at}
use Rattle.pairs.specs.Changes.{Adds}
use Rattle.lanes.specs.Sheets.{sheet_by}
use Rattle.rounds.specs.Rows.{brought}
use Rattle.rounds.proofs.bring_rows.Given as goal

abbrev pub invariant-loop-g : goal.invariant-loop-g
invariant-loop-g g l =
    (l.from ≤ l.equations.size.valuations)
    × (length l.st ≡ g.row.ROOM)
    × ((ks : List ℕ) → Adds reached_at l.initial.s l.s (brought (sheet_by l.equations ks) (scratch l.initial.s) l.equations.size.valuations (live l.initial.s) l.from))

abbrev pub decreases-loop-g : goal.decreases-loop-g
decreases-loop-g g l = l.equations.size.valuations - l.from
