-- `rounds::bring_first` meets its contract.
use Rattle.std.proofs.Math.Option.{none}
use Rattle.std.proofs.Common.{arith}
use Rattle.lanes.proofs.RowLaws.{stack-most}
use Rattle.rounds.proofs.bring_first.Goals as goal

pub bring_row-requires : goal.bring_row-requires
bring_row-requires c = (stack-most _, omega arith)

pub returns : goal.returns
returns c = λ ks. c.bring_row.ensures none c.before-2.ensures ks
