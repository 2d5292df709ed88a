-- The loop of `preparation::search`.
use Rattle.std.proofs.Common.{ℕ, List, suc, ◌-◌}
use Rattle.completions.specs.Live.{allowed}
use Rattle.pairs.specs.Storage.{max_pairs}
use Rattle.pairs.specs.Changes.{base_of, RowOf}
use Rattle.lanes.specs.Sheets.{sheet_by}
use Rattle.preparation.specs.Search.{Occupied}
use Rattle.preparation.proofs.Searching.{Searching}
use Rattle.preparation.proofs.search.Given as goal

abbrev pub invariant-loop-st : goal.invariant-loop-st
invariant-loop-st l =
    Occupied l.w l.occupied l.s (base_of l.stage.layer)
    × ((ks : List ℕ) → RowOf l.w l.ok (allowed (sheet_by l.equations ks)) → Searching (sheet_by l.equations ks) (base_of l.stage.layer) (base_of l.stage.next) l.initial.s l.s l.layers)

abbrev pub decreases-loop-st : goal.decreases-loop-st
decreases-loop-st l = suc max_pairs - l.layers
