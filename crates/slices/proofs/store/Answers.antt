-- `slices::store` meets its contract.
use mathlib.Core.Path.{◌≡◌, sym, ◌∙◌, ap}
use native.Mathlib.Omega.{arith}
use lib.ListN.{length, set, length-set}
use lib.Seq.{length-paste}
use borrow.Author.Rules.{rules}
use Rattle.slices.proofs.SliceLaws.{stored-numbers}
use Rattle.slices.proofs.store.Goals as goal

pub put_numbers-requires : goal.put_numbers-requires
put_numbers-requires c =
    let f : length c.args.r.counts ≡ 28 = search rules in
    (omega (arith, f), simp length-set (omega (arith, c.requires)))

pub shape_of-ns : goal.shape_of-ns
shape_of-ns c =
    let f : length c.args.r.counts ≡ 28 = search rules in
    let d = set (set c.args.ns.now 0 c.args.r.rounds) 1 c.from.result in
    let e : length d ≡ length c.args.ns.now = simp length-set (omega arith) in
    ap length c.put_numbers.ensures ∙ length-paste d 2 c.args.r.counts 28 (omega (arith, e, c.requires)) (omega (arith, f)) ∙ e

pub returns : goal.returns
returns c =
    let f : length c.args.r.counts ≡ 28 = search rules in
    rw (sym c.from.ensures) (stored-numbers c.args.r.rounds c.from.result c.args.ns.now c.args.r.counts c.put_numbers.new.into c.requires f c.put_numbers.ensures)
