-- For the contracts of inner functions: what the answers of the reader's parts mean.
use Rattle.std.specs.Prelude.{Result, Ok, Err, ◌≡◌, cond, List, [], ◌∷◌, ℕ, ◌+◌, ◌≤◌, ◌<◌, length, take, get_or}
use Rattle.outcomes.specs.declared.Refusal.{Refusal}
use Rattle.outcomes.specs.declared.Refusal.TheVariants.{Length}
use Rattle.outcomes.specs.Outcome.{Outcome}
use Rattle.sheet.specs.Expression.{Expr, Parsed, tree, broken, parse}
use Rattle.sheet.specs.Parts.{code_at}
use Rattle.sheet.specs.Reading.{Parses}
use Rattle.sheet.specs.declared.Grammar.{Grammar}
use Rattle.sheet.specs.RuleSheet.{length_ok, Outputs, trees, breaks}

abbrev pub output_of : ℕ → Parsed → Result ℕ Refusal
output_of l (tree t) = Ok l
output_of l (broken r) = Err r

-- what the first output of a list of bytes gives
unfoldable pub output_at : Grammar → List ℕ → Result ℕ Refusal
output_at s [] = Err Length
output_at s (l ∷ bs) = cond (length_ok l bs) (output_of l (parse s [] (take l bs))) (Err Length)

abbrev pub outputs_by : Outcome → List Expr → Outputs
outputs_by (Ok _) ts = trees ts
outputs_by (Err r) ts = breaks r

-- e stands in the buffer from a place on, and what lies below is kept
pub record Put (from : ℕ) (e old new : List ℕ) : Type 0 where
  pub same_length : length new ≡ length old
  pub part : (i : ℕ) → i < length e → get_or new (from + i) 0 ≡ get_or e i 0
  pub below : (i : ℕ) → i < from → get_or new i 0 ≡ get_or old i 0

-- the code holds the expressions of n outputs in a sheet of s streams, 64 bytes for each
pub record PackedOutputs (s n : ℕ) (len code : List ℕ) : Type 0 where
  pub sizes : length len ≡ 7
  pub code_size : length code ≡ 448
  pub small : (k : ℕ) → k < n → get_or len k 0 ≤ 64
  pub parts : (k : ℕ) → k < n → Parses s (code_at code len k)
