-- `monitor::close_on` meets its contract.
use lib.ListN.{length}
use Rattle.checks.proofs.Checking.{closing_ready}
use Rattle.monitor.proofs.Entries.{closing-turned-down, closing-done}
use Rattle.monitor.proofs.close_on.Goals as goal

pub closing-requires : goal.closing-requires
closing-requires c =
    let y = closing_ready c.args.x.now.outputs (length c.args.storage.now) c.args.r (rw c.in-Ok.is at c.check_closing-outcome.ensures) in
    (y.long, y.right, y.some)

pub returns-in-Err : goal.returns-in-Err
returns-in-Err c =
    let d = rw c.in-Err.is at c.check_closing-outcome.ensures in
    λ bs ok. closing-turned-down bs c.args.x.now ok c.args.r c.args.storage.now _ _ c.refused_closing.ensures d

pub returns-in-Ok : goal.returns-in-Ok
returns-in-Ok c =
    let d = rw c.in-Ok.is at c.check_closing-outcome.ensures in
    λ bs ok. closing-done bs c.args.x.now ok c.args.r c.args.storage.now c.closing.result c.closing.ensures.0 d c.closing.ensures.1
