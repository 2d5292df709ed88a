-- For the contracts of inner functions: rows of valuations, as the bits of words.
use Rattle.std.specs.Prelude.{◌≡◌, Bool, ◌&&◌, ◌||◌, List, ℕ, ◌*◌, ◌<◌}
use Rattle.std.proofs.Math.Option.{some}
use Rattle.sheet.specs.RuleSheet.{RuleSheet}
use Rattle.lola.specs.Equations.{holds}
use Rattle.completions.specs.Live.{Pairs}
use Rattle.completions.specs.Steps.{any_next}
use Rattle.pairs.specs.Changes.{row_bit}

-- some pair (b, c) of F, with c below n or the end mark, lets a stand before b
unfoldable pub meets : RuleSheet → ℕ → Pairs → ℕ → ℕ → Bool
meets x n F a b = any_next n (λ c. F b c && holds x (some a) b c)

-- w words have gained f
abbrev pub United : ℕ → List ℕ → List ℕ → (ℕ → Bool) → Type 0
United w s t f = (a : ℕ) → a < 64 * w → row_bit t 0 a ≡ (row_bit s 0 a || f a)
