-- `monitor::round` meets its contract.
use lib.ListN.{length}
use Rattle.monitor.proofs.Entries.{round_refused, round-unread}
use Rattle.monitor.proofs.round.Goals as goal

pub returns-in-Err : goal.returns-in-Err
returns-in-Err c =
    round_refused c.args.sheet.now c.args.storage.now c.args.before c.args.letters _ _ c.refused_round.ensures
    (round-unread c.args.sheet.now (length c.args.storage.now) c.args.before c.args.letters _ (rw c.in-Err.is at c.accept_sheet.ensures.decided))

pub returns-in-Ok : goal.returns-in-Ok
returns-in-Ok c = c.round_on.ensures _ (rw c.in-Ok.is at c.accept_sheet.ensures.sheet)
