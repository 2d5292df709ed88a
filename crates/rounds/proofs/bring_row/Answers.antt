-- `rounds::bring_row` meets its contract.
use Rattle.std.proofs.Common.{arith}
use Rattle.rounds.proofs.RowLaws.{bring-none, bring-more, bring-all, rows_end}
use Rattle.rounds.proofs.bring_row.Goals as goal

pub loop-b-init : goal.loop-b-init
loop-b-init c = (omega arith, λ p r ks. bring-none _ _ _ _ p c.args.equations.now.size.sized.most_valuations c.requires.1)

pub loop-b-preserved : goal.loop-b-preserved
loop-b-preserved c = (
  omega (arith, c.in-Some.ensures.1),
  λ p r ks.
      bring-more _ _ _ _ p c.args.equations.now.size.sized.most_valuations c.requires.1 _ _ _ _ c.in-Some.ensures (c.loop-b.invariant.1 p r ks)
      (c.gain_row.ensures p (c.seen.ensures p r) ks),
)

pub returns : goal.returns
returns c =
    λ p r ks.
    rows_end _ _ _ _ p c.args.equations.now.size.sized.most_valuations c.requires.1 _ _
    (bring-all _ _ _ _ p c.args.equations.now.size.sized.most_valuations c.requires.1 _ _ c.loop-b.invariant.0 c.in_default.ensures (c.loop-b.invariant.1 p r ks)) (c.gain_ends.ensures p r ks)
