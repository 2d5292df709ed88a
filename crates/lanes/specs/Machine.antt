-- For the contracts of inner functions: what an expression byte does to a stack of truth values. It is total: an operator that
-- lacks a value leaves the stack as it is, and a byte that is no operation counts as one. On an expression that parses, the stack
-- follows the stack of trees (proofs/ParseLaws.antt).
use Rattle.std.specs.Prelude.{Bool, not, ◌&&◌, ◌||◌, cond, List, [], ◌∷◌, ℕ, ◌%◌, eqb, ltb}
use Rattle.std.specs.Bool.{beq}

-- the top of a stack is its head
unfoldable pub neg_top : List Bool → List Bool
neg_top [] = []
neg_top (x ∷ s) = not x ∷ s

unfoldable pub and_top : List Bool → List Bool
and_top [] = []
and_top (x ∷ []) = x ∷ []
and_top (y ∷ (x ∷ s)) = (x && y) ∷ s

unfoldable pub or_top : List Bool → List Bool
or_top [] = []
or_top (x ∷ []) = x ∷ []
or_top (y ∷ (x ∷ s)) = (x || y) ∷ s

unfoldable pub equal_top : List Bool → List Bool
equal_top [] = []
equal_top (x ∷ []) = x ∷ []
equal_top (y ∷ (x ∷ s)) = beq x y ∷ s

-- the bytes below 0x40
unfoldable pub basic : ℕ → List Bool → List Bool
basic e s = cond (ltb e 2) (eqb e 1 ∷ s) (cond (eqb e 2) (neg_top s) (cond (eqb e 3) (and_top s) (cond (eqb e 4) (or_top s) (equal_top s))))

-- one byte, where env k is the value of the read byte 0x40 + k
unfoldable pub stepped : (ℕ → Bool) → ℕ → List Bool → List Bool
stepped env e s = cond (ltb e 64) (basic e s) (env (e % 64) ∷ s)
