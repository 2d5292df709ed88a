-- `sheet::read_expression` meets its contract.
use Rattle.std.proofs.Common.{refl, sym, ◌∙◌, [], arith}
use Rattle.std.proofs.lemmas.Result.{err_from_is_err_and}
use Rattle.sheet.proofs.Depths.{turn, stop, one_left, not-one-left, grows}
use Rattle.sheet.proofs.read_expression.Goals as goal

pub loop-byte-init : goal.loop-byte-init
loop-byte-init c = record { low = omega arith; on = ([], refl, refl) }

pub returns-in_err-depth : goal.returns-in_err-depth
returns-in_err-depth c =
    let a = c.args in
    let q = sym c.after_byte.ensures ∙ c.in_err-depth.was in
    let broken = stop a.grammar a.e.now c.loop-byte.byte-index c.loop-byte.depth (omega arith) c.loop-byte.invariant.on _ q in
    let p = err_from_is_err_and c.from_residual.result c.from_residual.ensures.1 in
    rw (p.1, p.2, broken)

pub loop-byte-preserved : goal.loop-byte-preserved
loop-byte-preserved c =
    let a = c.args in
    let q = sym c.after_byte.ensures ∙ c.in_ok-depth.was in
    record {
      low = omega (arith, grows _ _ _ _ q, c.loop-byte.invariant.low);
      on = turn a.grammar a.e.now c.loop-byte.byte-index c.loop-byte.depth (omega arith) c.loop-byte.invariant.on _ q;
    }

pub returns-then-left-eq1 : goal.returns-then-left-eq1
returns-then-left-eq1 c =
    let a = c.args in
    rw (one_left a.grammar a.e.now c.loop-byte.byte-index c.loop-byte.depth (omega arith) c.loop-byte.invariant.on c.if-left-eq1.true).1

pub returns-else-left-eq1 : goal.returns-else-left-eq1
returns-else-left-eq1 c =
    let a = c.args in
    rw (not-one-left a.grammar a.e.now c.loop-byte.byte-index c.loop-byte.depth (omega arith) c.loop-byte.invariant.on c.if-left-eq1.false)
