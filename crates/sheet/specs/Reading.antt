-- What the reader's answer means: a refusal, or the rule sheet that the answer holds (01, "The sheet"; "What is turned down").
-- Manual: "The sheet".
use Rattle.std.specs.Prelude.{Result, Ok, Err, ◌≡◌, false, List, [], ◌∷◌, ◌++◌, ℕ, zero, suc, ◌+◌, ◌≤◌, ◌<◌, length, get_or}
use Rattle.outcomes.specs.Outcome.{Outcome}
use Rattle.outcomes.specs.declared.Refusal.{Refusal}
use Rattle.sheet.specs.Expression.{Expr, constant, newest, Parsed, tree, broken, parse}
use Rattle.sheet.specs.Parts.{Ranges, Below, code_at}
use Rattle.sheet.specs.RuleSheet.{RuleSheet, Reading, refused, accepted, required_of}
use Rattle.sheet.specs.declared.Sheet.{Sheet}

-- the tree of an expression that parses (an accepted sheet has no other)
abbrev pub tree_of : Parsed → Expr
tree_of (tree t) = t
tree_of (broken r) = constant false

-- the trees of the first k outputs, in their order, in a sheet of s streams; a sheet that was read has no byte that its version lacks
unfoldable pub trees_of : ℕ → List ℕ → List ℕ → ℕ → List Expr
trees_of s code len zero = []
trees_of s code len (suc k) = trees_of s code len k ++ (tree_of (parse (newest s) [] (code_at code len k)) ∷ [])

-- the rule sheet that the code's sheet stands for
abbrev pub rule_sheet : Sheet → RuleSheet
rule_sheet x =
    record {
      inputs = x.inputs;
      expressions = trees_of (x.inputs + x.outputs) x.code x.len x.outputs;
      required = required_of x.assumed;
    }

abbrev pub reading_of : Result Sheet Refusal → Reading
reading_of (Ok x) = accepted (rule_sheet x)
reading_of (Err r) = refused r

-- an expression of 1 to 64 bytes that parses
pub record Parses (s : ℕ) (e : List ℕ) : Type 0 where
  pub some : 1 ≤ length e
  pub short : length e ≤ 64
  pub parses : parse (newest s) [] e ≡ tree (tree_of (parse (newest s) [] e))

-- what a caller may use of an accepted sheet
pub record Usable (x : Sheet) : Type 0 where
  pub ranges : Ranges x.inputs x.outputs
  pub below : Below x.assumed x.outputs
  pub code_size : length x.code ≡ 448
  pub sizes : length x.len ≡ 7
  pub small : (k : ℕ) → k < x.outputs → get_or x.len k 0 ≤ 64
  pub parts : (k : ℕ) → k < x.outputs → Parses (x.inputs + x.outputs) (code_at x.code x.len k)

-- what holds of an answer that is no refusal
abbrev pub when_accepted : Outcome → Type 0 → Type 0
when_accepted (Ok _) X = X
when_accepted (Err r) X = Unit {0}
