-- `lanes::row::alike` meets its contract.
use mathlib.Core.Path.{◌≡◌, refl, ap, ap₂, ◌∙◌}
use mathlib.Core.Bool.{Bool, true, false, not, ◌&&◌, ◌||◌, beq}
use Prim.Native.Nat.{◌-◌}
use native.Mathlib.Omega.{arith}
use lib.Bits.{bit_and, bit_or, or_lt}
use Rattle.words.specs.Bits.{bit}
use Rattle.words.proofs.BitLaws.{bit-and, bit-or, bit_not}
use Rattle.lanes.proofs.row.alike.Goals as goal

pub returns : goal.returns
returns c = λ i h.
    bit-or i (bit_and c.args.x c.args.y) (18446744073709551615 - bit_or c.args.x c.args.y)
    ∙ ap₂ ◌||◌ (bit-and i c.args.x c.args.y) (bit_not 64 i (bit_or c.args.x c.args.y) h (or_lt 64 c.args.x c.args.y (omega arith) (omega arith)) ∙ ap not (bit-or i c.args.x c.args.y))
    ∙ both (bit i c.args.x) (bit i c.args.y)
  where
    both : (u v : Bool) → ((u && v) || not (u || v)) ≡ beq u v
    both true true = refl
    both true false = refl
    both false true = refl
    both false false = refl
