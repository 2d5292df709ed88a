-- For the contracts of inner functions: valuations as the bits of words, and the verdicts read off them.
use Rattle.std.specs.Prelude.{◌≡◌, Bool, false, not, ◌&&◌, List, ℕ, ◌+◌, ◌*◌, ◌<◌}
use Rattle.std.specs.Bool.{beq}
use Rattle.std.proofs.Math.Option.{Option}
use Rattle.words.specs.Below.{any_below}
use Rattle.words.specs.Bits.{bit}
use Rattle.completions.specs.Live.{Pairs}
use Rattle.completions.specs.Steps.{Within}
use Rattle.completions.specs.Together.{named}
use Rattle.pairs.specs.Changes.{row_bit}

-- every pair of S among the valuations below w has a first part that passes the test
abbrev pub Passing : ℕ → (ℕ → Bool) → Pairs → Type 0
Passing w r S = (b : ℕ) (c : Option ℕ) → b < w → Within w c → r b ≡ false → S b c ≡ false

-- what is answered of a lane is whether it passes the test
abbrev pub Decides : (ℕ → Bool → Type 0) → (ℕ → Bool) → Type 0
Decides answer g = (i : ℕ) → i < 64 → (v : Bool) → answer i v → v ≡ g i

-- the test g gives v for some valuation of the first w words
unfoldable pub shows : ℕ → List ℕ → (ℕ → Bool) → Bool → Bool
shows w f g v = any_below (64 * w) (λ b. row_bit f 0 b && beq (g b) v)

-- each of the n outputs that the set names is true in v; m inputs stand before them
unfoldable pub all_named : ℕ → ℕ → ℕ → ℕ → Bool
all_named m n set v = not (any_below n (λ k. named set k && not (bit (m + k) v)))
