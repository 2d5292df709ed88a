-- `rounds::bring_rows` meets its contract.
use Rattle.std.proofs.Common.{arith}
use Rattle.std.proofs.Math.Option.{some}
use Rattle.std.proofs.lemmas.List.{length-replicate}
use Rattle.rounds.proofs.RowLaws.{groups-none, groups-more, groups-all}
use Rattle.rounds.proofs.bring_rows.Goals as goal

pub loop-g-init : goal.loop-g-init
loop-g-init g c = (omega arith, length-replicate _ _, λ ks. groups-none _ _ _ c.args.equations.now.size.sized.most_valuations _ c.requires.sparse)

pub whole_as_slice-bring_row : goal.whole_as_slice-bring_row
whole_as_slice-bring_row g c = omega arith

pub loop-g-preserved : goal.loop-g-preserved
loop-g-preserved g c = (
  omega (arith, c.in-Some.ensures.1),
  omega arith,
  λ ks. groups-more _ _ _ c.args.equations.now.size.sized.most_valuations _ c.requires.sparse _ _ _ _ c.in-Some.ensures (c.loop-g.invariant.2 ks) (c.bring_row.ensures (some _) c.before-in-Some.ensures ks),
)

pub returns : goal.returns
returns g c = λ ks. groups-all _ _ _ c.args.equations.now.size.sized.most_valuations _ c.requires.sparse _ _ c.loop-g.invariant.0 c.in_default.ensures (c.loop-g.invariant.2 ks)
