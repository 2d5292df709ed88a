-- Expressions as trees, and how postfix bytes are read (01, "The sheet"): a stack of trees, on which each byte works; rules 7 and 8, byte by
-- byte (01, "What is turned down").
-- Manual: "The sheet".
use Rattle.std.specs.Prelude.{Bool, cond, List, [], ◌∷◌, ℕ, leb, ltb, Ok, Err}
use Rattle.outcomes.specs.declared.Refusal.{Refusal}
use Rattle.outcomes.specs.declared.Refusal.TheVariants.{Byte, Values}
use Rattle.outcomes.specs.Outcome.{Outcome, unbroken}
use Rattle.sheet.specs.Bytes.{op_of, Decoded}
use Rattle.sheet.specs.declared.Grammar.{Grammar}
use Rattle.sheet.specs.declared.Offset.{Offset}
use Rattle.sheet.specs.declared.Op.TheVariants.{Const, Not, And, Or, Equal, Read}

pub data Expr : Type 0 where
  constant : Bool → Expr
  negation : Expr → Expr
  conjunction : Expr → Expr → Expr
  disjunction : Expr → Expr → Expr
  -- the two values are alike (02, W1)
  equality : Expr → Expr → Expr
  -- the stream's number, the round, and the value where there is no such round
  read : ℕ → Offset → Bool → Expr

-- the byte 05 may stand in sheets of version 2 (02, W1)
abbrev pub has_equal : Grammar → Bool
has_equal g = leb 2 g.version

-- the grammar of the newest version, in which every operation may stand, in a sheet of s streams
abbrev pub newest : ℕ → Grammar
newest s = record { version = 2; streams = s }

-- the stack after a byte, or the rule that the byte breaks
pub data Next : Type 0 where
  stack : List Expr → Next
  breaks : Refusal → Next

-- what an operation does to the stack, its top first, in a sheet of the grammar s: 7 (Byte) before 8 (Values)
unfoldable pub apply_op : Grammar → Decoded → List Expr → Next
apply_op s (Ok (Const v)) st = stack (constant v ∷ st)
apply_op s (Ok Not) [] = breaks Values
apply_op s (Ok Not) (a ∷ st) = stack (negation a ∷ st)
apply_op s (Ok And) [] = breaks Values
apply_op s (Ok And) (b ∷ []) = breaks Values
apply_op s (Ok And) (b ∷ (a ∷ st)) = stack (conjunction a b ∷ st)
apply_op s (Ok Or) [] = breaks Values
apply_op s (Ok Or) (b ∷ []) = breaks Values
apply_op s (Ok Or) (b ∷ (a ∷ st)) = stack (disjunction a b ∷ st)
apply_op s (Ok Equal) [] = cond (has_equal s) (breaks Values) (breaks Byte)
apply_op s (Ok Equal) (b ∷ []) = cond (has_equal s) (breaks Values) (breaks Byte)
apply_op s (Ok Equal) (b ∷ (a ∷ st)) = cond (has_equal s) (stack (equality a b ∷ st)) (breaks Byte)
apply_op s (Ok (Read q o d)) st = cond (ltb q.0 s.streams) (stack (read q.0 o d ∷ st)) (breaks Byte)
apply_op s (Err r) st = breaks r

-- the tree of a whole expression, or the rule that it breaks first
pub data Parsed : Type 0 where
  tree : Expr → Parsed
  broken : Refusal → Parsed

-- the end must leave exactly one value
unfoldable pub final : List Expr → Parsed
final [] = broken Values
final (t ∷ []) = tree t
final (t ∷ (u ∷ st)) = broken Values

abbrev pub go_on : Next → (List Expr → Parsed) → Parsed
go_on (stack st) f = f st
go_on (breaks r) f = broken r

-- an expression's bytes, read from the stack st on
unfoldable pub parse : Grammar → List Expr → List ℕ → Parsed
parse s st [] = final st
parse s st (b ∷ bs) = go_on (apply_op s (op_of b) st) (λ st'. parse s st' bs)

abbrev pub outcome_of : Parsed → Outcome
outcome_of (tree t) = unbroken
outcome_of (broken r) = Err r
