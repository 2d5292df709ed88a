-- For the contracts of inner functions: a sheet as the slices and numbers that the code hands on.
use Rattle.std.specs.Prelude.{Bool, true, ◌&&◌, ◌≡◌, List, [], ◌∷◌, ℕ, suc, ◌+◌, ◌*◌, ◌≤◌, ◌<◌, length, get_or}
use Rattle.std.specs.Bool.{beq}
use Rattle.words.specs.Bits.{bit}
use Rattle.sheet.specs.Expression.{Expr, parse, tree}
use Rattle.sheet.specs.declared.Grammar.{Grammar}
use Rattle.sheet.specs.RuleSheet.{RuleSheet}
use Rattle.sheet.specs.Parts.{Ranges, code_at, parses}
use Rattle.sheet.specs.Reading.{trees_of}
use Rattle.lola.specs.Value.{Look, value}
use Rattle.lanes.specs.Around.{lane_look, here}

-- m inputs, n outputs, and their expressions, which parse
pub record Coded (m n : ℕ) (code len : List ℕ) : Type 0 where
  pub ranges : Ranges m n
  pub code_size : length code ≡ 448
  pub sizes : length len ≡ 7
  pub small : (k : ℕ) → k < n → get_or len k 0 ≤ 64
  pub parts : (k : ℕ) → k < n → parses (m + n) (code_at code len k) ≡ true

-- the rule sheet that they stand for; which outputs it requires is of no concern to the equations
abbrev pub sheet_of : ℕ → ℕ → List ℕ → List ℕ → List ℕ → RuleSheet
sheet_of m n code len ks = record { inputs = m; expressions = trees_of (m + n) code len n; required = ks }

-- the streams q, q + 1, .. of v have the values of the expressions es, with any reads
unfoldable pub agreed : Look → List Expr → ℕ → ℕ → Bool
agreed look [] q v = true
agreed look (e ∷ es) q v = beq (bit q v) (value look e) && agreed look es (suc q) v

-- the w words of a row have the values of the expression with these bytes, lane by lane
pub record Values (w env own : ℕ) (bytes row : List ℕ) : Type 0 where
  pub lanes : (s : Grammar) (x : Expr) → parse s [] bytes ≡ tree x → (j i : ℕ) → j < w → i < 64 → bit i (get_or row j 0) ≡ value (lane_look env own (64 * j + i)) x

-- the w words of a row have the lanes in which the first k equations agree with the round itself, b or the lane's valuation
pub record Agree (w env own m n : ℕ) (code len : List ℕ) (b : ℕ) (row : List ℕ) (k : ℕ) : Type 0 where
  pub lanes : (j i : ℕ) → j < w → i < 64 → bit i (get_or row j 0) ≡ agreed (lane_look env own (64 * j + i)) (trees_of (m + n) code len k) m (here own b (64 * j + i))
