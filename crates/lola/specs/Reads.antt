-- The reads of an expression: one for each read byte, whatever logic makes of it (01, "Circular sheets").
-- Manual: "The language".
use Rattle.std.specs.Prelude.{Bool, false, ◌&&◌, ◌||◌, ℕ, eqb}
use Rattle.sheet.specs.Expression.{Expr, constant, negation, conjunction, disjunction, equality, read}
use Rattle.sheet.specs.declared.Offset.{Offset}
use Rattle.sheet.specs.declared.Offset.TheVariants.{Earlier, Now, Later}

-- an offset as a number: the read of round t + o looks at the round u with u + 1 = t + offset_no o
abbrev pub offset_no : Offset → ℕ
offset_no Earlier = 0
offset_no Now = 1
offset_no Later = 2

-- the expression reads stream q at the offset whose number is o
unfoldable pub has_read : Expr → ℕ → ℕ → Bool
has_read (constant c) q o = false
has_read (negation e) q o = has_read e q o
has_read (conjunction e f) q o = has_read e q o || has_read f q o
has_read (disjunction e f) q o = has_read e q o || has_read f q o
has_read (equality e f) q o = has_read e q o || has_read f q o
has_read (read q' o' d) q o = eqb q' q && eqb (offset_no o') o
