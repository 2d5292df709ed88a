-- `letters::letters_of` meets its contract.
use mathlib.Core.Path.{◌≡◌, sym, ◌∙◌, ap, ap₂}
use mathlib.Core.Bool.{Bool, ◌&&◌, and-true, and_assoc}
use Prim.Native.Nat.{ℕ, ◌+◌, ◌*◌, ◌%◌, ◌^◌, ◌≤◌}
use native.Mathlib.Omega.{arith}
use lib.Dec.{ltb}
use lib.Pow.{pow_mono}
use Rattle.letters.specs.Matching.{agrees, matches}
use Rattle.letters.proofs.Matching.{matches-more}
use Rattle.letters.proofs.letters_of.Goals as goal

pub lanes_below-set-requires : goal.lanes_below-set-requires
lanes_below-set-requires c =
    let g : 2 ^ c.args.m ≤ 2 ^ 6 = pow_mono c.requires in
    (omega arith, omega arith)

pub loop-i-init : goal.loop-i-init
unfolding matches
loop-i-init c = (
  omega arith,
  λ l h.
      let fit : 2 ^ c.args.m ≤ 2 ^ 6 = pow_mono c.requires in
      let size : 1 * 2 ^ c.args.m % 2 ^ 64 ≡ 2 ^ c.args.m = omega arith in
      let low : 64 * 0 + l ≡ l = omega arith in
      c.lanes_below-set.ensures l h ∙ ap₂ ltb low size ∙ sym (and-true (ltb l (2 ^ c.args.m))),
)

pub loop-i-preserved : goal.loop-i-preserved
loop-i-preserved c = (
  omega arith,
  λ l h.
      let low = ltb l (2 ^ c.args.m) in
      c.narrowed-set.ensures l h
      ∙ ap (λ (z : Bool). z && agrees c.args.known c.args.value c.loop-i.i l) (c.loop-i.invariant.1 l h)
      ∙ and_assoc low (matches c.args.known c.args.value c.loop-i.i l) (agrees c.args.known c.args.value c.loop-i.i l)
      ∙ ap (λ (z : Bool). low && z) (sym (matches-more c.args.known c.args.value c.loop-i.i l)),
)

pub returns : goal.returns
returns c = λ l h.
    let e : c.loop-i.i ≡ 6 = omega arith in
    c.loop-i.invariant.1 l h ∙ ap (λ (z : ℕ). ltb l (2 ^ c.args.m) && matches c.args.known c.args.value z l) e
