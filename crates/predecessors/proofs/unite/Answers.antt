-- `predecessors::unite` meets its contract.
use Rattle.std.proofs.Common.{Bool, ◌&&◌, ap, arith}
use Rattle.std.proofs.Math.Option.{some}
use Rattle.lola.specs.Equations.{holds}
use Rattle.pairs.specs.Changes.{row_bit}
use Rattle.pairs.proofs.RowWords.{row-of}
use Rattle.lanes.specs.Around.{neighbour}
use Rattle.lanes.specs.Sheets.{sheet_by}
use Rattle.lanes.proofs.RowLaws.{stack-most}
use Rattle.predecessors.proofs.Uniting.{united_old, united_as}
use Rattle.predecessors.proofs.unite.Goals as goal

pub returns-then-covers : goal.returns-then-covers
returns-then-covers c = λ ks. united_old _ _ _ _ (c.covers.ensures c.if-covers.true)

pub predecessors-x-requires : goal.predecessors-x-requires
predecessors-x-requires c = omega (arith, stack-most c.args.equations.now.size.words, c.told-st)

pub returns : goal.returns
returns c = λ ks.
    united_as _ _ _ _ _ c.gain.ensures
    (λ a l. ap (λ (u : Bool). row_bit c.args.ok.now 0 a && u)
    (row-of _ _ (λ a. holds (sheet_by c.args.equations.now ks) (some a) c.args.b (neighbour c.args.next)) (c.predecessors-x.ensures _ c.ahead.ensures ks) a l))
