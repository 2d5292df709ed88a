-- The loop of `preparation::join_row`.
use Rattle.std.proofs.Common.{◌*◌}
use Rattle.pairs.specs.Storage.{live}
use Rattle.pairs.specs.Changes.{base_of}
use Rattle.preparation.specs.Search.{newcomers, Joins, Occupied}
use Rattle.preparation.proofs.join_row.Given as goal

abbrev pub invariant-loop-j : goal.invariant-loop-j
invariant-loop-j l =
    Joins (base_of l.next) l.initial.s l.s (newcomers (64 * l.j) l.row l.b (live l.initial.s))
    × (Occupied l.w l.initial.rows l.initial.s (base_of l.next) → Occupied l.w l.rows l.s (base_of l.next))
