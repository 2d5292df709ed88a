-- `reader::read_outputs` meets its contract.
use Rattle.std.proofs.Common.{refl, sym, ◌∙◌, arith}
use Rattle.std.proofs.lemmas.Result.{err_from_is_err_and}
use native.Mathlib.Nat.{add-sub_cancel_left}
use Rattle.reader.proofs.AllOutputs.{begins, lies, next, stopped, left_over, nothing_left, all_held}
use Rattle.reader.proofs.read_outputs.Goals as goal

pub loop-k-init : goal.loop-k-init
loop-k-init c = begins c.args.s.now c.args.grammar c.args.n _ _ c.requires.0 c.told-len c.told-code

pub overflow_add-at : goal.overflow_add-at
overflow_add-at c =
    let i = lies c.args.s.now c.args.grammar c.args.n c.loop-k.len c.loop-k.code c.loop-k.at c.loop-k.k c.loop-k.invariant _ (sym c.read_output.ensures ∙ c.in_ok-bytes.was) in
    omega (arith, i.inside)

pub slice_bounds-put-end-in-loop-k : goal.slice_bounds-put-end-in-loop-k
slice_bounds-put-end-in-loop-k c =
    let i = lies c.args.s.now c.args.grammar c.args.n c.loop-k.len c.loop-k.code c.loop-k.at c.loop-k.k c.loop-k.invariant _ (sym c.read_output.ensures ∙ c.in_ok-bytes.was) in
    omega (arith, i.inside)

pub put-requires : goal.put-requires
put-requires c =
    let i = lies c.args.s.now c.args.grammar c.args.n c.loop-k.len c.loop-k.code c.loop-k.at c.loop-k.k c.loop-k.invariant _ (sym c.read_output.ensures ∙ c.in_ok-bytes.was) in
    simp add-sub_cancel_left (omega (arith, i.size, i.short, c.loop-k.invariant.held.code_size))

pub returns-in_err-bytes : goal.returns-in_err-bytes
returns-in_err-bytes c =
    let p = err_from_is_err_and c.from_residual.result c.from_residual.ensures.1 in
    rw (p.1, p.2)
    (record {
      reading = sym (stopped c.args.s.now c.args.grammar c.args.n c.loop-k.len c.loop-k.code c.loop-k.at c.loop-k.k c.loop-k.invariant (omega arith) _ (sym c.read_output.ensures ∙ c.in_err-bytes.was));
      held = tt;
    })

pub loop-k-preserved : goal.loop-k-preserved
loop-k-preserved c =
    next c.args.s.now c.args.grammar c.args.n c.loop-k.len c.loop-k.code c.loop-k.at c.loop-k.k c.loop-k.invariant
    (omega arith) (omega arith) _ (sym c.read_output.ensures ∙ c.in_ok-bytes.was) c.put.new.buffer (rw add-sub_cancel_left at c.put.ensures)

pub returns-then-at-s : goal.returns-then-at-s
returns-then-at-s c =
    record { reading = rw (left_over c.args.s.now c.args.grammar c.args.n c.loop-k.len c.loop-k.code c.loop-k.at c.loop-k.k c.loop-k.invariant (omega arith) (omega arith)) refl; held = tt }

pub returns : goal.returns
returns c =
    record {
      reading = rw (nothing_left c.args.s.now c.args.grammar c.args.n c.loop-k.len c.loop-k.code c.loop-k.at c.loop-k.k c.loop-k.invariant (omega arith) (omega arith)) refl;
      held = all_held c.args.s.now c.args.grammar c.args.n c.loop-k.len c.loop-k.code c.loop-k.at c.loop-k.k c.loop-k.invariant (omega arith);
    }
