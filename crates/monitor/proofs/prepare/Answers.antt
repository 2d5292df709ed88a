-- `monitor::prepare` meets its contract.
use lib.ListN.{length}
use Rattle.monitor.proofs.Entries.{prepare_refused, prepare_unread}
use Rattle.monitor.proofs.prepare.Goals as goal

pub returns-in-Err : goal.returns-in-Err
returns-in-Err c =
    prepare_refused c.args.sheet.now c.args.storage.now _ _ c.refused_preparation.ensures
    (prepare_unread c.args.sheet.now (length c.args.storage.now) _ (rw c.in-Err.is at c.accept_sheet.ensures.decided))

pub returns-in-Ok : goal.returns-in-Ok
returns-in-Ok c = c.prepare_on.ensures _ (rw c.in-Ok.is at c.accept_sheet.ensures.sheet)
