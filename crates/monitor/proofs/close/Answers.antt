-- `monitor::close` meets its contract.
use lib.ListN.{length}
use Rattle.monitor.proofs.Entries.{closing_refused, closing-unread}
use Rattle.monitor.proofs.close.Goals as goal

pub returns-in-Err : goal.returns-in-Err
returns-in-Err c =
    closing_refused c.args.sheet.now c.args.storage.now c.args.before _ _ c.refused_closing.ensures
    (closing-unread c.args.sheet.now (length c.args.storage.now) c.args.before _ (rw c.in-Err.is at c.accept_sheet.ensures.decided))

pub returns-in-Ok : goal.returns-in-Ok
returns-in-Ok c = c.close_on.ensures _ (rw c.in-Ok.is at c.accept_sheet.ensures.sheet)
