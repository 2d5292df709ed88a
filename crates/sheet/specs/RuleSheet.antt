-- A rule sheet, and what reading a list of bytes as one gives: the sheet, or the first rule that is broken (01, "The sheet").
-- Manual: "The sheet".
use Rattle.std.specs.Prelude.{Option, Some, None, Result, Ok, Err, Bool, cond, ◌&&◌, List, [], ◌∷◌, ◌++◌, ℕ, zero, suc, ◌+◌, length, take, drop, leb}
use Rattle.outcomes.specs.declared.Refusal.{Refusal}
use Rattle.outcomes.specs.declared.Refusal.TheVariants.{Length, Leftover}
use Rattle.sheet.specs.Expression.{Expr, Parsed, tree, broken, parse}
use Rattle.sheet.specs.Header.{header_of, version_of}
use Rattle.sheet.specs.declared.OutputNo.{OutputNo}
use Rattle.sheet.specs.declared.Grammar.{Grammar}
use Rattle.sheet.specs.declared.Header.{Header}

-- The number of inputs m, the expression of each output in the order of their numbers, and the outputs that are assumed to be true
-- in every round: none or one from a sheet.
pub record RuleSheet : Type 0 where
  pub inputs : ℕ
  pub expressions : List Expr
  pub required : List ℕ

-- the number of outputs n
abbrev pub outputs : RuleSheet → ℕ
outputs x = length x.expressions

-- the number of streams m + n; output k is stream m + k
abbrev pub streams : RuleSheet → ℕ
streams x = x.inputs + outputs x

-- what a list of bytes reads as
pub data Reading : Type 0 where
  refused : Refusal → Reading
  accepted : RuleSheet → Reading

-- the outputs' expressions, or the rule that is broken first
pub data Outputs : Type 0 where
  trees : List Expr → Outputs
  breaks : Refusal → Outputs

-- a length is 1 to 64, and that many bytes follow it
abbrev pub length_ok : ℕ → List ℕ → Bool
length_ok l bs = leb 1 l && (leb l 64 && leb l (length bs))

-- these expressions come first
abbrev pub after : List Expr → Outputs → Outputs
after ts (trees us) = trees (ts ++ us)
after ts (breaks r) = breaks r

abbrev pub and_then : Parsed → Outputs → Outputs
and_then (tree t) rest = after (t ∷ []) rest
and_then (broken r) rest = breaks r

-- k outputs, each a length byte and that many expression bytes, and nothing after them, in a sheet of the grammar s
unfoldable pub read_outputs : Grammar → ℕ → List ℕ → Outputs
read_outputs s zero [] = trees []
read_outputs s zero (b ∷ bs) = breaks Leftover
read_outputs s (suc k) [] = breaks Length
read_outputs s (suc k) (l ∷ bs) =
    cond (length_ok l bs) (and_then (parse s [] (take l bs)) (read_outputs s k (drop l bs))) (breaks Length)

-- byte 7 names none or one
abbrev pub required_of : Option OutputNo → List ℕ
required_of None = []
required_of (Some k) = k.0 ∷ []

abbrev pub with_outputs : ℕ → ℕ → Option OutputNo → Outputs → Reading
with_outputs m n a (trees ts) = accepted (record { inputs = m; expressions = ts; required = required_of a })
with_outputs m n a (breaks r) = refused r

abbrev pub with_header : List ℕ → Result Header Refusal → Reading
with_header bs (Ok h) = with_outputs h.inputs h.outputs h.assumed (read_outputs (record { version = version_of bs; streams = h.inputs + h.outputs }) h.outputs (drop 8 bs))
with_header bs (Err r) = refused r

unfoldable pub read_sheet : List ℕ → Reading
read_sheet bs = with_header bs (header_of bs)
