-- `record::with_round` meets its contract.
use mathlib.Core.Path.{◌≡◌, refl}
use Prim.Native.Nat.{◌+◌, ◌*◌}
use native.Mathlib.Omega.{arith}
use lib.ListN.{length}
use borrow.Author.Rules.{rules}
use Rattle.outcomes.specs.Numbers.{told_at}
use Rattle.record.specs.Record.{column}
use Rattle.record.proofs.Tallies.{record_is, countable, counted_none, counted-more, counted-all, column_lt}
use Rattle.record.proofs.with_round.Goals as goal

pub loop-k-init : goal.loop-k-init
loop-k-init c = (omega arith, counted_none _ _)

pub offset_bounds-counts-at : goal.offset_bounds-counts-at
offset_bounds-counts-at c =
    omega (arith, column_lt (told_at c.args.verdicts c.loop-k.k))

pub bounds-counts-at : goal.bounds-counts-at
bounds-counts-at c =
    omega (arith, column_lt (told_at c.args.verdicts c.loop-k.k))

pub overflow_add-counts : goal.overflow_add-counts
overflow_add-counts c =
    let v = told_at c.args.verdicts c.loop-k.k in
    let at = 4 * c.loop-k.k + column v in
    let l = column_lt v in
    rw c.count_index-at.ensures
    (omega (arith, c.loop-k.invariant.1.beyond at (omega arith), countable c.args.n c.args.r (record_is c.args.n c.args.r c.requires.1) c.requires.2 at (omega arith)))

pub offset_bounds-counts-at-in-loop-k : goal.offset_bounds-counts-at-in-loop-k
offset_bounds-counts-at-in-loop-k c =
    omega (arith, column_lt (told_at c.args.verdicts c.loop-k.k))

pub bounds-counts-at-in-loop-k : goal.bounds-counts-at-in-loop-k
bounds-counts-at-in-loop-k c =
    omega (arith, column_lt (told_at c.args.verdicts c.loop-k.k))

pub loop-k-preserved : goal.loop-k-preserved
loop-k-preserved c =
    let f : length c.args.r.counts ≡ 28 = search rules in
    rw c.count_index-at.ensures (omega arith, counted-more c.loop-k.k c.args.verdicts c.args.r.counts c.loop-k.counts (omega (arith, f)) c.loop-k.invariant.1)

pub returns : goal.returns
returns c =
    let f : length c.args.r.counts ≡ 28 = search rules in
    (refl, refl, counted-all c.args.n c.loop-k.k _ _ _ (omega arith) f c.loop-k.invariant.1)
