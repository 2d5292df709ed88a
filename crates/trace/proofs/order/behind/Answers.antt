-- `trace::order::behind` meets its contract.
use Rattle.trace.proofs.Leads.{behind_none}
use Rattle.trace.proofs.order.behind.Goals as goal

pub returns-then-mask-eq0 : goal.returns-then-mask-eq0
returns-then-mask-eq0 c = behind_none _ _ _ _ c.if-mask-eq0.true
