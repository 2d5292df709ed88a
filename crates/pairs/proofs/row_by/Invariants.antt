-- The loop of `pairs::row_by`.
use Rattle.std.proofs.Common.{ℕ, Bool}
use Rattle.pairs.specs.Changes.{GivesRow}
use Rattle.pairs.proofs.RowWords.{Filling}
use Rattle.pairs.proofs.row_by.Given as goal

abbrev pub invariant-loop-j : goal.invariant-loop-j
invariant-loop-j g l = (G : ℕ → Bool) → GivesRow l.w (goal.F-post g l.word) G → Filling l.w G l.row l.j
