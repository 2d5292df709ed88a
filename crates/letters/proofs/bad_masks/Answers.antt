-- `letters::bad_masks` meets its contract.
use Prim.Native.Nat.{◌≤◌, ◌^◌}
use native.Mathlib.Omega.{arith}
use lib.Pow.{pow_mono}
use borrow.Author.Tests.{le-leb, lt-leb}
use Rattle.letters.specs.Masks.{bad_masks}
use Rattle.letters.proofs.bad_masks.Goals as goal

pub returns-then-known-size : goal.returns-then-known-size
unfolding bad_masks
returns-then-known-size c =
    let g : 2 ^ c.args.m ≤ 2 ^ 6 = pow_mono c.requires in
    rw (lt-leb (2 ^ c.args.m) c.args.known (omega arith))

pub returns : goal.returns
unfolding bad_masks
returns c =
    let g : 2 ^ c.args.m ≤ 2 ^ 6 = pow_mono c.requires in
    rw (le-leb (2 ^ c.args.m) c.args.known (omega arith))
