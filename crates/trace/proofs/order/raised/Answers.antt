-- `trace::order::raised` meets its contract.
use Rattle.std.proofs.Common.{sym, ◌∙◌, ap, arith}
use Rattle.words.specs.Bits.{bit}
use Rattle.trace.proofs.Leads.{raised-settled, raised-read}
use Rattle.trace.proofs.order.raised.Goals as goal
use Rattle.trace.proofs.order.raised.Goals.{then-not-has_bit, else-not-has_bit}

pub loop-q-preserved : goal.loop-q-preserved
loop-q-preserved c =
    elim c.if-not-has_bit.branch [
      | then-not-has_bit w ↦ rw w.lead-is (raised-read _ _ _ _ _ _ _ _ c.loop-q.invariant (omega (arith, w.max-lead.ensures)) _ w.behind.ensures (omega (arith, w.max-lead.ensures)))
      | else-not-has_bit w ↦ rw w.lead-is (raised-settled _ _ _ _ _ _ _ _ c.loop-q.invariant (omega arith) (ap (bit c.loop-q.q) (sym c.from.ensures) ∙ sym c.has_bit.ensures ∙ w.if-not-has_bit.false))
    ]
