-- `words::has_bit` meets its contract.
use Rattle.std.proofs.Common.{refl}
use Rattle.words.specs.Bits.{bit, digit}
use Rattle.words.proofs.has_bit.Goals as goal

pub returns : goal.returns
unfolding bit digit
returns c = refl
