-- The loop of `rounds::bring_row`.
use Rattle.std.proofs.Common.{List, ℕ, ◌-◌, ◌≤◌}
use Rattle.std.proofs.Math.Option.{Option}
use Rattle.lanes.specs.Around.{Before}
use Rattle.lanes.specs.Sheets.{sheet_by}
use Rattle.rounds.proofs.RowLaws.{Brought}
use Rattle.rounds.proofs.bring_row.Given as goal

abbrev pub invariant-loop-b : goal.invariant-loop-b
invariant-loop-b l =
    (l.from ≤ l.equations.size.valuations)
    × ((p : Option ℕ) → Before l.before p → (ks : List ℕ) → Brought (sheet_by l.equations ks) l.initial.s l.equations.size.valuations l.g p l.s l.from)

abbrev pub decreases-loop-b : goal.decreases-loop-b
decreases-loop-b l = l.equations.size.valuations - l.from
