-- For the contracts of inner functions: a letter against masks, input by input.
use Rattle.std.specs.Prelude.{Bool, true, cond, ◌&&◌, ℕ, zero, suc}
use Rattle.std.specs.Bool.{beq}
use Rattle.words.specs.Bits.{bit}

-- the letter has the value's bit in input i, if that is known
abbrev pub agrees : ℕ → ℕ → ℕ → ℕ → Bool
agrees known val i l = cond (bit i known) (beq (bit i l) (bit i val)) true

-- in the inputs below n
unfoldable pub matches : ℕ → ℕ → ℕ → ℕ → Bool
matches known val zero l = true
matches known val (suc n) l = matches known val n l && agrees known val n l
