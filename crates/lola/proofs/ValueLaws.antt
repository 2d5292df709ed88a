-- The value of an expression depends on its reads alone, and these are of streams below 8.
use mathlib.Core.Path.{◌≡◌, refl, ap, ap₂}
use mathlib.Core.Bool.{Bool, not, ◌&&◌, ◌||◌, beq}
use mathlib.Core.List.{List, []}
use Prim.Native.Nat.{ℕ, ◌<◌}
use Rattle.sheet.specs.Expression.{Expr, constant, negation, conjunction, disjunction, equality, read, parse, tree}
use Rattle.sheet.specs.Postfix.{InSheet}
use Rattle.sheet.specs.declared.Offset.{Offset}
use Rattle.sheet.specs.declared.Grammar.{Grammar}
use Rattle.sheet.proofs.Postfixes.{tree_exactly}
use Rattle.lola.specs.Value.{Look, value}

module _ (x y : Look) (same : (q : ℕ) (o : Offset) (d : Bool) → q < 8 → x q o d ≡ y q o d) (s : Grammar) where
  value_same : (e : Expr) → InSheet s e → value x e ≡ value y e
  unfolding value InSheet
  value_same (constant c) h = refl
  value_same (negation e) h = ap not (value_same e h)
  value_same (conjunction e f) h = ap₂ ◌&&◌ (value_same e h.0) (value_same f h.1)
  value_same (disjunction e f) h = ap₂ ◌||◌ (value_same e h.0) (value_same f h.1)
  value_same (equality e f) h = ap₂ beq (value_same e h.1) (value_same f h.2)
  value_same (read q o d) h = same q o d h.1

  -- of an expression that was read
  pub value-of-bytes : (bs : List ℕ) (e : Expr) → parse s [] bs ≡ tree e → value x e ≡ value y e
  value-of-bytes bs e p = value_same e ((tree_exactly s bs e).0 p).1
