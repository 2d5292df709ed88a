-- `letters::repeated` meets its contract.
use mathlib.Core.Path.{◌≡◌, refl, sym, ap}
use Prim.Native.Nat.{ℕ}
use native.Mathlib.Nat.{mod-eq_of_lt}
use native.Mathlib.Omega.{arith}
use lib.Bits.{and_le_r}
use Rattle.words.specs.Bits.{bit}
use Rattle.letters.proofs.Lanes.{parts, product_bit}
use Rattle.letters.proofs.repeated.Goals as goal

pub overflow_mul-result : goal.overflow_mul-result
overflow_mul-result c = omega (arith, and_le_r c.args.set 0x3)

pub overflow_mul-result-in-2 : goal.overflow_mul-result-in-2
overflow_mul-result-in-2 c = omega (arith, and_le_r c.args.set 0xf)

pub overflow_mul-result-in-3 : goal.overflow_mul-result-in-3
overflow_mul-result-in-3 c = omega (arith, and_le_r c.args.set 0xff)

pub overflow_mul-result-in-4 : goal.overflow_mul-result-in-4
overflow_mul-result-in-4 c = omega (arith, and_le_r c.args.set 0xffff)

pub overflow_mul-result-in-5 : goal.overflow_mul-result-in-5
overflow_mul-result-in-5 c = omega (arith, and_le_r c.args.set 0xffff_ffff)

pub returns-in-1 : goal.returns-in-1
unfolding parts
returns-in-1 c = rw c.in-1.is (product_bit 1 32 0x5555_5555_5555_5555 c.args.set (omega arith) refl)

pub returns-in-2 : goal.returns-in-2
unfolding parts
returns-in-2 c = rw c.in-2.is (product_bit 2 16 0x1111_1111_1111_1111 c.args.set (omega arith) refl)

pub returns-in-3 : goal.returns-in-3
unfolding parts
returns-in-3 c = rw c.in-3.is (product_bit 3 8 0x0101_0101_0101_0101 c.args.set (omega arith) refl)

pub returns-in-4 : goal.returns-in-4
unfolding parts
returns-in-4 c = rw c.in-4.is (product_bit 4 4 0x0001_0001_0001_0001 c.args.set (omega arith) refl)

pub returns-in-5 : goal.returns-in-5
unfolding parts
returns-in-5 c = rw c.in-5.is (product_bit 5 2 0x0000_0001_0000_0001 c.args.set (omega arith) refl)

pub returns-in_default : goal.returns-in_default
returns-in_default c =
    let e : c.args.m ≡ 6 = omega arith in
    rw e (λ l h. ap (λ (z : ℕ). bit z c.args.set) (sym (mod-eq_of_lt h)))
