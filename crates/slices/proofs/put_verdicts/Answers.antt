-- `slices::put_verdicts` meets its contract.
use mathlib.Core.Path.{◌≡◌, sym, ◌∙◌}
use native.Mathlib.Omega.{arith}
use lib.ListN.{length}
use borrow.Author.Rules.{rules}
use Rattle.slices.specs.Slices.{verdict_numbers}
use Rattle.slices.proofs.SliceLaws.{put-none, put-more, numbers-size, numbers-at}
use Rattle.slices.proofs.put_verdicts.Goals as goal

pub loop-i-init : goal.loop-i-init
loop-i-init c = (omega arith, put-none _ _ _)

pub bounds-into-at : goal.bounds-into-at
bounds-into-at c = omega (arith, c.loop-i.invariant.1.same_length)

pub loop-i-preserved : goal.loop-i-preserved
loop-i-preserved c =
    let f : length c.args.verdicts ≡ 7 = search rules in
    let xs = verdict_numbers c.args.verdicts c.args.n in
    let e : length xs ≡ c.args.n = numbers-size c.args.verdicts c.args.n (omega (arith, f)) in (
      omega arith,
      put-more c.loop-i.i c.args.at xs c.args.into.now c.loop-i.into c.from.result (omega arith) (omega (arith, e))
          (c.from.ensures ∙ sym (numbers-at c.args.verdicts c.args.n c.loop-i.i (omega arith))) c.loop-i.invariant.1,
    )

pub shape_of-into : goal.shape_of-into
shape_of-into c = c.loop-i.invariant.1.same_length

pub returns : goal.returns
returns c =
    let same : c.loop-i.i ≡ c.args.n = omega arith in
    rw same at c.loop-i.invariant.1.same
