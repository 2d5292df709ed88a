-- The loop of `preparation::sweep`.
use Rattle.std.proofs.Common.{ℕ, List, ◌*◌, ◌-◌, ◌≤◌}
use Rattle.completions.specs.Live.{allowed}
use Rattle.pairs.specs.Changes.{base_of, RowOf}
use Rattle.lanes.specs.Sheets.{sheet_by}
use Rattle.preparation.specs.Search.{Empty, Occupied, Swept}
use Rattle.preparation.proofs.sweep.Given as goal

abbrev pub invariant-loop-b : goal.invariant-loop-b
invariant-loop-b l =
    (l.from ≤ 64 * l.w)
    × ((ks : List ℕ) → RowOf l.w l.ok (allowed (sheet_by l.equations ks)) → Swept (sheet_by l.equations ks) (64 * l.w) l.from (base_of l.stage.layer) (base_of l.stage.next) l.initial.s l.s)
    × (Empty l.initial.s (base_of l.stage.next) → Occupied l.w l.rows l.s (base_of l.stage.next))

abbrev pub decreases-loop-b : goal.decreases-loop-b
decreases-loop-b l = 64 * l.w - l.from
