-- The bits of a number, the lowest first (01: "bit i" of letters, masks, valuations and stored words).
-- Manual: "The sheet".
use Rattle.std.specs.Prelude.{Bool, ℕ, zero, suc, ◌+◌, ◌*◌, ◌/◌, ◌%◌, ◌^◌, eqb}
use Rattle.words.specs.Below.{one}

-- digit i of w, 0 or 1
unfoldable pub digit : ℕ → ℕ → ℕ
digit i w = w / 2 ^ i % 2

-- whether bit i of w is set
unfoldable pub bit : ℕ → ℕ → Bool
bit i w = eqb (digit i w) 1

-- the number of k bits whose bit i is f i (02, W4: bit j of a round's number is letter j)
unfoldable pub from_bits : ℕ → (ℕ → Bool) → ℕ
from_bits zero f = 0
from_bits (suc k) f = from_bits k f + 2 ^ k * one (f k)
