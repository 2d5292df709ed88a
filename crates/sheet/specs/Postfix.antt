-- How an expression is written in bytes, from the tree's side (01, "The sheet", the list of expression bytes).
-- Manual: "The sheet".
use Rattle.std.specs.Prelude.{◌≡◌, ◌↔◌, Bool, true, false, List, [], ◌∷◌, ◌++◌, ℕ, ◌+◌, ◌<◌, ◌≤◌}
use Rattle.sheet.specs.Expression.{Expr, constant, negation, conjunction, disjunction, equality, read, tree, parse}
use Rattle.sheet.specs.declared.Grammar.{Grammar}
use Rattle.sheet.specs.declared.Offset.{Offset}
use Rattle.sheet.specs.declared.Offset.TheVariants.{Earlier, Now, Later}

-- the byte of a read of stream q
unfoldable pub read_byte : ℕ → Offset → Bool → ℕ
read_byte q Now v = 0x40 + q
read_byte q Earlier false = 0x50 + q
read_byte q Earlier true = 0x58 + q
read_byte q Later false = 0x60 + q
read_byte q Later true = 0x68 + q

-- postfix: an operator stands after its values
unfoldable pub written : Expr → List ℕ
written (constant false) = 0x00 ∷ []
written (constant true) = 0x01 ∷ []
written (negation a) = written a ++ (0x02 ∷ [])
written (conjunction a b) = written a ++ (written b ++ (0x03 ∷ []))
written (disjunction a b) = written a ++ (written b ++ (0x04 ∷ []))
written (equality a b) = written a ++ (written b ++ (0x05 ∷ []))
written (read q o v) = read_byte q o v ∷ []

-- a read of the current round has no value for a missing round; it is kept as false
abbrev pub DefaultFits : Offset → Bool → Type 0
DefaultFits Now v = v ≡ false
DefaultFits Earlier v = Unit {0}
DefaultFits Later v = Unit {0}

-- every read is of one of the sheet's streams, and of one of the 8 that a byte can name; an equality is of version 2 (02, W1)
unfoldable pub InSheet : Grammar → Expr → Type 0
InSheet s (constant v) = Unit {0}
InSheet s (negation a) = InSheet s a
InSheet s (conjunction a b) = InSheet s a × InSheet s b
InSheet s (disjunction a b) = InSheet s a × InSheet s b
InSheet s (equality a b) = (2 ≤ s.version) × InSheet s a × InSheet s b
InSheet s (read q o v) = (q < s.streams) × (q < 8) × DefaultFits o v

-- an expression's bytes are read as a tree exactly if they are its writing, its reads are of the sheet's streams, and it has no equality where
-- the version has none
abbrev pub TreeExactly : Type 0
TreeExactly = (s : Grammar) (bs : List ℕ) (t : Expr) → (parse s [] bs ≡ tree t) ↔ ((bs ≡ written t) × InSheet s t)
