-- `lola::step_bit` meets its contract.
use Rattle.std.proofs.Common.{◌≡◌, ℕ, ◌+◌, ◌-◌, ◌*◌, ◌/◌, ◌%◌, ◌^◌, ap, arith}
use Rattle.words.specs.Bits.{digit}
use Rattle.lola.proofs.step_bit.Goals as goal

pub returns-then-byte-ge64 : goal.returns-then-byte-ge64
unfolding digit
returns-then-byte-ge64 c = record {
  small = omega arith;
  const = λ h. omega arith;
  not = λ h. omega arith;
  and = λ h. omega arith;
  or = λ h. omega arith;
  equal = λ h. omega arith;
  read = λ h k. let e : c.args.byte % 64 ≡ c.args.byte - 0x40 = omega arith in ap (λ (i : ℕ). c.args.stack * 2 + c.args.env / 2 ^ i % 2) e;
}
