-- `preparation::sweep` meets its contract.
use Rattle.std.proofs.Common.{arith}
use Rattle.predecessors.proofs.Rows.{streams-low}
use Rattle.predecessors.proofs.Uniting.{row_from, empty_row}
use Rattle.preparation.proofs.Joining.{layers-of, occupied_beside, column-joins, swept-none, swept-skip, swept-more}
use Rattle.preparation.proofs.Searching.{rows_none}
use Rattle.preparation.proofs.sweep.Goals as goal

pub loop-b-init : goal.loop-b-init
loop-b-init c =
    let wide = c.args.equations.now.size.sized.wide in
    (omega arith, λ ks r. swept-none _ _ _ _ wide.most _ _ c.requires, rows_none _ _ _)

pub loop-b-preserved : goal.loop-b-preserved
loop-b-preserved c =
    let size = c.args.equations.now.size in
    let places = layers-of _ _ c.args.stage.apart in
    let n = c.in-Some.ensures in (
      omega (arith, n.1),
      λ ks r.
          swept-more _ _ _ _ size.sized.wide.most _ _ c.requires places _ _ _ _ n.1
          (swept-skip _ _ _ _ size.sized.wide.most _ _ c.requires _ _ n.0 (omega (arith, n.1)) n.2 _ (c.loop-b.invariant.1 ks r))
          (column-joins _ _ (streams-low _ _ _ _ ks _ (omega (arith, size.sized.power, size.sized.wide.under))) _ _ _ _ _ _
          (row_from _ _ _ _ _ _ (λ a l. empty_row 4 a) r (c.unite_row.ensures ks)) c.join_row.ensures.joins)
          c.take_row.ensures,
      λ e. occupied_beside _ _ _ _ _ _ _ size.sized.wide.most places.apart c.take_row.ensures (c.join_row.ensures.occupied (c.loop-b.invariant.2 e)),
    )

pub returns : goal.returns
returns c =
    let wide = c.args.equations.now.size.sized.wide in
    record {
      by_index = λ ks r. swept-skip _ _ _ _ wide.most _ _ c.requires _ _ c.loop-b.invariant.0 (omega arith) c.in_default.ensures _ (c.loop-b.invariant.1 ks r);
      occupied = c.loop-b.invariant.2;
    }
