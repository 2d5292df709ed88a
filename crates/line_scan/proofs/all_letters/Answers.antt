-- `line_scan::all_letters` meets its contract.
use mathlib.Core.Path.{◌≡◌, ap₂, ◌∙◌}
use Prim.Native.Nat.{◌+◌, ◌*◌, ◌%◌, ◌^◌, ◌≤◌}
use native.Mathlib.Omega.{arith}
use lib.Dec.{ltb}
use lib.Pow.{pow_mono}
use Rattle.line_scan.proofs.Blanks.{all-letters}
use Rattle.line_scan.proofs.all_letters.Goals as goal

pub lanes_below-requires : goal.lanes_below-requires
lanes_below-requires c =
    let fit : 2 ^ c.args.m ≤ 2 ^ 6 = pow_mono c.requires in
    (omega arith, omega arith)

pub returns : goal.returns
returns c =
    let fit : 2 ^ c.args.m ≤ 2 ^ 6 = pow_mono c.requires in
    let size : 1 * 2 ^ c.args.m % 2 ^ 64 ≡ 2 ^ c.args.m = omega arith in
    all-letters c.args.m _ c.requires (omega arith) (λ l h. let low : 64 * 0 + l ≡ l = omega arith in c.lanes_below.ensures l h ∙ ap₂ ltb low size)
