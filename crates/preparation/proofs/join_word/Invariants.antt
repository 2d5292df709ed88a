-- The loop of `preparation::join_word`.
use Rattle.std.proofs.Common.{ℕ, ◌≤◌, ◌<◌}
use Rattle.pairs.specs.Changes.{base_of}
use Rattle.preparation.specs.Search.{Occupied}
use Rattle.preparation.proofs.Joining.{Lanes}
use Rattle.preparation.proofs.join_word.Given as goal

abbrev pub invariant-loop-rest : goal.invariant-loop-rest
invariant-loop-rest l =
    Lanes (base_of l.next) l.initial.s l.s l.j l.word l.b l.rest
    × ((w : ℕ) → w ≤ 4 → l.j < w → Occupied w l.initial.rows l.initial.s (base_of l.next) → Occupied w l.rows l.s (base_of l.next))

abbrev pub decreases-loop-rest : goal.decreases-loop-rest
decreases-loop-rest l = l.rest
