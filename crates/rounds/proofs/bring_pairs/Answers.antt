-- `rounds::bring_pairs` meets its contract.
use Rattle.std.proofs.Common.{◌≤◌, arith}
use Rattle.lanes.proofs.RowLaws.{stack_two, stack-most}
use Rattle.rounds.proofs.bring_pairs.Goals as goal

pub bring_rows-requires-clause-room : goal.bring_rows-requires-clause-room
bring_rows-requires-clause-room c =
    let h : c.args.equations.now.size.words ≤ 2 = omega (arith, c.args.equations.now.size.sized.wide.count) in
    (omega (arith, stack_two _ h), omega arith)

pub bring_rows-requires-else-equations-le128-clause-room : goal.bring_rows-requires-else-equations-le128-clause-room
bring_rows-requires-else-equations-le128-clause-room c = (stack-most _, omega arith)
