-- Completions as lists of valuations, and the pairs that they reach.
use mathlib.Core.Bool.{Bool}
use mathlib.Core.Path.{◌≡◌}
use mathlib.Core.List.{List, [], ◌∷◌}
use mathlib.Core.Option.{Option, none, some}
use Prim.Native.Nat.{ℕ, pred, ◌≤◌}
use lib.Dec.{T}
use lib.ListN.{length, get_elem?}
use Rattle.sheet.specs.RuleSheet.{RuleSheet}
use Rattle.lola.specs.Equations.{holds}
use Rattle.completions.specs.Live.{Follows, Live}

-- what a round says of its valuation
abbrev pub Round : Type 0
Round = ℕ → Bool

-- the list has a valuation for each round, and it passes the round's test
abbrev pub Agrees : List Round → List ℕ → Type 0
Agrees [] vs = Unit {0}
Agrees (r ∷ rs) [] = ⊥
Agrees (r ∷ rs) (v ∷ vs) = T (r v) × Agrees rs vs

-- a trace of one round or more that has the given rounds at its start and keeps the assumption
pub record Run (s : RuleSheet) (rs : List Round) (vs : List ℕ) : Type 0 where
  pub some_round : 1 ≤ length vs
  pub satisfies : Follows s none vs
  pub starts : Agrees rs vs

-- one that ends with the rounds
pub record EndedRun (s : RuleSheet) (rs : List Round) (vs : List ℕ) : Type 0 where
  pub complete : Run s rs vs
  pub ends : length vs ≡ length rs

-- some run has the valuation b in the last round, and c, a valuation or the end, after it (the list's places count from 0)
pub record Reached (s : RuleSheet) (rs : List Round) (b : ℕ) (c : Option ℕ) : Type 0 where
  pub trace : List ℕ
  pub complete : Run s rs trace
  pub here : get_elem? trace (pred (length rs)) ≡ some b
  pub next : get_elem? trace (length rs) ≡ c

-- the pair (b, c) can be reached by the first round r
pub record StartsAt (s : RuleSheet) (r : Round) (b : ℕ) (c : Option ℕ) : Type 0 where
  pub live : Live s b c
  pub matches : T (r b)
  pub equations : T (holds s none b c)

-- the pair can be reached by one round more, r, from a pair of R
pub record StepsTo (s : RuleSheet) (R : ℕ → Option ℕ → Type 0) (r : Round) (b : ℕ) (c : Option ℕ) : Type 0 where
  pub live : Live s b c
  pub matches : T (r b)
  pub prev : ℕ
  pub reached : R prev (some b)
  pub equations : T (holds s (some prev) b c)
