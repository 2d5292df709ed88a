-- For the contracts of inner functions: the reads of a round in one word, and the stack of bits in one word.
use Rattle.std.specs.Prelude.{◌≡◌, Bool, true, false, ℕ, ◌+◌, ◌-◌, ◌*◌, ◌/◌, ◌%◌, ◌≤◌, ◌<◌}
use Rattle.words.specs.Bits.{bit, digit}
use Rattle.sheet.specs.declared.Offset.{Offset}
use Rattle.sheet.specs.declared.Offset.TheVariants.{Earlier, Now, Later}
use Rattle.lola.specs.Value.{Look}

-- the number of a read: its byte less 0x40, in five families of eight
unfoldable pub read_no : ℕ → Offset → Bool → ℕ
read_no q Now d = q
read_no q Earlier false = 16 + q
read_no q Earlier true = 24 + q
read_no q Later false = 32 + q
read_no q Later true = 40 + q

-- the reads in a word, each at the bit of its number
unfoldable pub slots : ℕ → Look
slots env q o d = bit (read_no q o d) env

-- what the byte b makes of the stack w: not, and, or, equal, a constant or a read
pub record Works (env w b r : ℕ) : Type 0 where
  pub small : r ≤ 2 * w + 1
  pub const : b < 2 → r ≡ w * 2 + b
  pub not : b ≡ 2 → r ≡ w + 1 - 2 * (w % 2)
  pub and : b ≡ 3 → r ≡ w / 4 * 2 + (w % 2 + w / 2 % 2) / 2
  pub or : b ≡ 4 → r ≡ w / 4 * 2 + (w % 2 + w / 2 % 2 + 1) / 2
  pub equal : b ≡ 5 → r ≡ w / 4 * 2 + (w % 2 + w / 2 % 2 + 1) % 2
  pub read : 0x40 ≤ b → b < 0x70 → r ≡ w * 2 + digit (b - 0x40) env
