-- The loop of `predecessors::unite_row`.
use Rattle.std.proofs.Common.{ℕ, List, ◌*◌, ◌-◌, ◌≤◌}
use Rattle.pairs.specs.Changes.{base_of}
use Rattle.lanes.specs.Sheets.{sheet_by}
use Rattle.predecessors.proofs.Uniting.{Uniting}
use Rattle.predecessors.proofs.unite_row.Given as goal

abbrev pub invariant-loop-c : goal.invariant-loop-c
invariant-loop-c l = (l.from ≤ 64 * l.w) × ((ks : List ℕ) → Uniting (sheet_by l.equations ks) l.w l.ok l.s (base_of l.layer) l.b l.initial.row l.row l.from)

abbrev pub decreases-loop-c : goal.decreases-loop-c
decreases-loop-c l = 64 * l.w - l.from
