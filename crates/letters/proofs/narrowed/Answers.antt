-- `letters::narrowed` meets its contract.
use mathlib.Core.Path.{◌≡◌, sym, ◌∙◌, ap, ap₂}
use mathlib.Core.Bool.{Bool, true, ◌&&◌, beq, cond, and-true}
use Prim.Native.Nat.{◌+◌, ◌*◌}
use native.Mathlib.Omega.{arith}
use Rattle.words.specs.Bits.{bit}
use Rattle.words.proofs.BitLaws.{bit-and}
use Rattle.letters.proofs.narrowed.Goals as goal

pub returns-then-has_bit : goal.returns-then-has_bit
returns-then-has_bit c =
    λ l h.
    let zero : 64 * 0 + l ≡ l = omega arith in
    bit-and l c.args.set c.agree.result
    ∙ ap (λ (z : Bool). bit l c.args.set && z)
    (c.agree.ensures l h ∙ ap₂ beq (c.stream_word.ensures l h ∙ ap (bit c.args.i) zero) c.has_bit-want.ensures
    ∙ sym (ap (λ (z : Bool). cond z (beq (bit c.args.i l) (bit c.args.i c.args.value)) true) (sym c.has_bit.ensures ∙ c.if-has_bit.true)))

pub returns : goal.returns
returns c = λ l h.
    sym (ap (λ (z : Bool). bit l c.args.set && cond z (beq (bit c.args.i l) (bit c.args.i c.args.value)) true) (sym c.has_bit.ensures ∙ c.if-has_bit.false)
    ∙ and-true (bit l c.args.set))
