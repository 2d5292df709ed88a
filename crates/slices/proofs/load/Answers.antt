-- `slices::load` meets its contract.
use Rattle.std.proofs.Common.{◌≡◌, ◌∙◌, drop, arith, length-drop}
use Rattle.std.proofs.Math.Seq.{take_all}
use Rattle.slices.proofs.load.Goals as goal

pub returns : goal.returns
returns c =
    let e : c.copy_from_slice.new.self ≡ drop 2 c.args.ns.now =
    c.copy_from_slice.ensures.after ∙ take_all 28 (drop 2 c.args.ns.now) (omega (arith, length-drop 2 c.args.ns.now, c.requires)) in
    rw (e, c.rounds_by.ensures)
