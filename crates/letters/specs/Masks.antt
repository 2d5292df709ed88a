-- Rule 11 for masks (01, "What is turned down"; 02, W4).
-- Manual: "Refusals".
use Rattle.std.specs.Prelude.{Bool, not, ◌||◌, ℕ, ◌^◌, eqb, leb}
use Rattle.std.specs.Int.Bits.{bit_and}

-- a known bit lies beyond m, or a value bit isn't known
unfoldable pub bad_masks : ℕ → ℕ → ℕ → Bool
bad_masks m known val = leb (2 ^ m) known || not (eqb (bit_and val known) val)
