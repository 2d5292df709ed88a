-- `queries::together` meets its contract.
use lib.ListN.{length}
use Rattle.queries.proofs.Answering.{refused-call, unread}
use Rattle.queries.proofs.together.Goals as goal

pub returns-in-Err : goal.returns-in-Err
returns-in-Err c =
    refused-call c.args.sheet.now c.args.storage.now c.args.before c.args.outputs _ _ c.refused.ensures
    (unread c.args.sheet.now (length c.args.storage.now) c.args.before c.args.outputs _ (rw c.in-Err.is at c.accept_sheet.ensures.decided))

pub returns-in-Ok : goal.returns-in-Ok
returns-in-Ok c = c.together_on.ensures _ (rw c.in-Ok.is at c.accept_sheet.ensures.sheet)
