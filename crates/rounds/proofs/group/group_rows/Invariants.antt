-- The loops of `rounds::group::group_rows`.
use Rattle.std.proofs.Common.{◌*◌, min}
use Rattle.pairs.specs.Storage.{reached, scratch, scratch_at}
use Rattle.pairs.specs.Changes.{Adds}
use Rattle.rounds.specs.Rows.{among, grouped, Sparse}
use Rattle.rounds.proofs.group.group_rows.Given as goal

abbrev pub invariant-loop-four : goal.invariant-loop-four
invariant-loop-four l =
    Adds scratch_at l.initial.s l.s (grouped (reached l.initial.s) (among l.letters) l.mask (64 * l.size.words) (min (4 * l.four) l.size.valuations))
    × (Sparse l.size.valuations l.initial.groups (scratch l.initial.s) → Sparse l.size.valuations l.groups (scratch l.s))

abbrev pub invariant-loop-a : goal.invariant-loop-a
invariant-loop-a l =
    Adds scratch_at l.fn.s l.s (grouped (reached l.fn.s) (among l.letters) l.mask (64 * l.size.words) (min l.a l.size.valuations))
    × (Sparse l.size.valuations l.fn.groups (scratch l.fn.s) → Sparse l.size.valuations l.groups (scratch l.s))
