-- The only values that satisfy all equations (01, "Whole traces").
-- Manual: "The language".
use Rattle.std.specs.Prelude.{◌≡◌, List, map, ℕ}
use Rattle.std.proofs.Math.Option.{none}
use Rattle.sheet.specs.RuleSheet.{RuleSheet}
use Rattle.lola.specs.Equations.{Satisfies, letter}

-- vs is a whole trace of the sheet with the letters ls: the first round has none before it, and the last none after it
pub record TraceOf (x : RuleSheet) (ls vs : List ℕ) : Type 0 where
  pub letters : map (letter x) vs ≡ ls
  pub satisfies : Satisfies x none vs

-- there is exactly one
pub record OneTrace (x : RuleSheet) (ls : List ℕ) : Type 0 where
  pub exists : (vs : List ℕ) × TraceOf x ls vs
  pub only : (vs ws : List ℕ) → TraceOf x ls vs → TraceOf x ls ws → vs ≡ ws
