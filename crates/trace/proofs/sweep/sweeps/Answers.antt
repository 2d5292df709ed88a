-- `trace::sweep::sweeps` meets its contract.
use borrow.Author.Tests.{eqb-true}
use Rattle.trace.proofs.Sweeps.{extends-start, extends-all}
use Rattle.trace.proofs.sweep.sweeps.Goals as goal

pub loop-k-init : goal.loop-k-init
loop-k-init c = extends-start _ _ _ _ _ _

pub returns-then-settled-eq-ALL : goal.returns-then-settled-eq-ALL
returns-then-settled-eq-ALL c = extends-all _ _ _ _ _ _ _ _ _ c.args.sheet.now.ranges.outputs (λ e. c.if-settled-eq-ALL.true) c.loop-k.invariant

pub returns : goal.returns
returns c = extends-all _ _ _ _ _ _ _ _ _ c.args.sheet.now.ranges.outputs (eqb-true _ 127) c.loop-k.invariant
