-- `words::lanes_below` meets its contract.
use mathlib.Core.Path.{◌≡◌, ap, ◌∙◌}
use Prim.Native.Nat.{ℕ, ◌-◌, ◌*◌, ◌%◌, ◌^◌}
use native.Mathlib.Omega.{arith}
use lib.Pow.{pow_pos}
use Rattle.words.specs.Bits.{bit}
use Rattle.words.proofs.BitLaws.{one_shl}
use Rattle.words.proofs.BelowLaws.{lanes-none, lanes_all, lanes-some}
use Rattle.words.proofs.lanes_below.Goals as goal

pub returns-then-v-low : goal.returns-then-v-low
returns-then-v-low c = λ i h. lanes-none i _ _ c.if-v-low.true

pub returns-then-low-v : goal.returns-then-low-v
returns-then-low-v c = λ i h. lanes_all i _ _ h c.if-low-v.true

pub overflow_sub-result : goal.overflow_sub-result
overflow_sub-result c = let e : 1 * 2 ^ (c.args.v - 64 * c.args.j) % 2 ^ 64 ≡ 2 ^ (c.args.v - 64 * c.args.j) = one_shl (c.args.v - 64 * c.args.j) (omega arith) in omega (arith, pow_pos (c.args.v - 64 * c.args.j))

pub returns : goal.returns
returns c = λ i h. let e : 1 * 2 ^ (c.args.v - 64 * c.args.j) % 2 ^ 64 ≡ 2 ^ (c.args.v - 64 * c.args.j) = one_shl (c.args.v - 64 * c.args.j) (omega arith) in ap (λ (z : ℕ). bit i (z - 1)) e ∙ lanes-some i _ _ (omega arith)
