-- `trace::sweep::passes` meets its contract.
use Rattle.std.proofs.Common.{◌≡◌, ◌*◌, length, arith}
use Rattle.trace.proofs.Solving.{going_start, going_more, going_end}
use Rattle.trace.proofs.sweep.passes.Goals as goal

pub loop-init : goal.loop-init
loop-init c = going_start _ _ _ _

pub loop-preserved : goal.loop-preserved
loop-preserved c = going_more _ _ _ _ _ _ _ _ c.loop.invariant c.pass-changed.ensures

pub returns : goal.returns
returns c =
    let all : c.loop.counter ≡ c.from.result * length c.args.letters.now = omega arith in
    going_end _ _ _ _ _ _ (rw c.from.ensures at all) c.loop.invariant
