-- `reader::read_output` meets its contract.
use mathlib.Core.Path.{sym, ◌∙◌}
use mathlib.Core.List.{[]}
use Prim.Native.Nat.{◌+◌}
use native.Mathlib.Omega.{arith}
use native.Mathlib.Nat.{add-sub_cancel_left}
use lib.ListN.{take, drop, get_or}
use Rattle.std.proofs.lemmas.Result.{err_from_is_err_and}
use Rattle.sheet.specs.Expression.{parse}
use Rattle.reader.proofs.Outputs.{no_byte, too_small, too_large, too_far, one-output, is-accepted, is-refused}
use Rattle.reader.proofs.read_output.Goals as goal

pub returns-then-s-at : goal.returns-then-s-at
returns-then-s-at c = sym (no_byte c.args.grammar c.args.at c.args.s.now c.if-s-at.true)

pub overflow_cast-len : goal.overflow_cast-len
overflow_cast-len c = omega (arith, c.type_inv.s c.args.at)

pub returns-then-len-lt1 : goal.returns-then-len-lt1
returns-then-len-lt1 c = sym (too_small c.args.grammar c.args.at c.args.s.now c.if-s-at.false c.if-len-lt1.true)

pub returns-then-most-len : goal.returns-then-most-len
returns-then-most-len c = sym (too_large c.args.grammar c.args.at c.args.s.now c.if-s-at.false c.if-most-len.true)

pub returns-then-s-start : goal.returns-then-s-start
returns-then-s-start c = sym (too_far c.args.grammar c.args.at c.args.s.now c.if-s-at.false c.if-s-start.true)

pub returns-in_err-read_expression : goal.returns-in_err-read_expression
returns-in_err-read_expression c =
    let l = get_or c.args.s.now c.args.at 0 in
    let q = sym c.in_err-read_expression.was ∙ c.read_expression.ensures in
    let p = err_from_is_err_and c.from_residual.result c.from_residual.ensures.1 in
    rw (p.1, p.2)
    (sym
    (one-output c.args.grammar c.args.at c.args.s.now c.if-s-at.false c.if-len-lt1.false c.if-most-len.false c.if-s-start.false
    ∙ is-refused l _ (parse c.args.grammar [] (take l (drop (c.args.at + 1) c.args.s.now))) (rw (add-sub_cancel_left (c.args.at + 1) l) at q)))

pub returns : goal.returns
returns c =
    let l = get_or c.args.s.now c.args.at 0 in
    let q = sym c.in_ok-read_expression.was ∙ c.read_expression.ensures in
    sym
    (one-output c.args.grammar c.args.at c.args.s.now c.if-s-at.false c.if-len-lt1.false c.if-most-len.false c.if-s-start.false
    ∙ is-accepted l (parse c.args.grammar [] (take l (drop (c.args.at + 1) c.args.s.now))) (rw (add-sub_cancel_left (c.args.at + 1) l) at q))
