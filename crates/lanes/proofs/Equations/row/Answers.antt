-- `lanes::Equations::row` meets its contract.
use Rattle.std.proofs.Common.{◌<◌, arith}
use Rattle.lanes.proofs.RowLaws.{stack_two, stack_four}
use Rattle.lanes.proofs.EquationLaws.{agree-two, agree-fewer}
use Rattle.lanes.proofs.Equations.row.Goals as goal

pub agreeing-row-requires : goal.agreeing-row-requires
agreeing-row-requires c = (omega arith, (omega arith, omega (arith, stack_two _ c.if-self-le2.true)))

pub agreeing-requires : goal.agreeing-requires
agreeing-requires c =
    let g : 2 < c.args.self.now.size.words = omega (arith, c.if-self-le2.false) in
    (omega arith, (omega arith, omega (arith, stack_four _ g)))

pub returns-then-self-le2 : goal.returns-then-self-le2
returns-then-self-le2 c = agree-fewer _ _ _ _ _ _ _ _ _ _ _ (agree-two _ _ _ _ _ _ _ _ _ c.agreeing-row.ensures) c.if-self-le2.true

pub returns : goal.returns
returns c = agree-fewer _ _ _ _ _ _ _ _ _ _ _ c.agreeing.ensures (c.args.self.now.size.sized.wide.most)
