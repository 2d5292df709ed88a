-- `predecessors::unite_row` meets its contract.
use Rattle.std.proofs.Common.{sym, ◌∙◌, arith}
use Rattle.predecessors.proofs.Uniting.{uniting-none, uniting-more, uniting-all, united-no-end, united-end}
use Rattle.predecessors.proofs.unite_row.Goals as goal

pub loop-c-init : goal.loop-c-init
loop-c-init c = (omega arith, λ ks. uniting-none _ _ _ _ _ _ _)

pub loop-c-preserved : goal.loop-c-preserved
loop-c-preserved c = (omega (arith, c.in-Some.ensures.1), λ ks. uniting-more _ _ _ _ _ _ _ _ _ _ _ (c.loop-c.invariant.1 ks) (c.unite.ensures ks) c.in-Some.ensures)

pub returns-then-has_end : goal.returns-then-has_end
returns-then-has_end c = λ ks.
    united-end _ _ _ _ _ _ _ _ _ (sym c.has_end.ensures ∙ c.if-has_end.true) (uniting-all _ _ _ _ _ _ _ _ _ c.loop-c.invariant.0 c.in_default.ensures (c.loop-c.invariant.1 ks))
    (c.unite-then-has_end.ensures ks)

pub returns-else-has_end : goal.returns-else-has_end
returns-else-has_end c = λ ks.
    united-no-end _ _ _ _ _ _ _ _ (sym c.has_end.ensures ∙ c.if-has_end.false)
    (uniting-all _ _ _ _ _ _ _ _ _ c.loop-c.invariant.0 c.in_default.ensures (c.loop-c.invariant.1 ks))
