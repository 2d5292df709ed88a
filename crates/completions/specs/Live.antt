-- Live pairs (01, "Completions and verdicts"), a valuation with a valuation or the end mark (none), and how far they are from the end (02, W13).
-- Manual: "Preparation".
use Rattle.std.specs.Prelude.{Bool, true, ◌&&◌, ◌≡◌, List, [], ◌∷◌, ℕ, ◌+◌, ◌^◌, ◌≤◌, T, ltb, length}
use Rattle.std.proofs.Math.Option.{Option, none, some}
use Rattle.words.specs.Below.{sum_below, count_below}
use Rattle.sheet.specs.RuleSheet.{RuleSheet, streams}
use Rattle.lola.specs.Equations.{holds, first, output}

-- the outputs ks are true in v
unfoldable pub all_true : RuleSheet → List ℕ → ℕ → Bool
all_true x [] v = true
all_true x (k ∷ ks) v = output x k v && all_true x ks v

-- the assumption bit, where the sheet has an assumption, is 1 in v
abbrev pub assumed : RuleSheet → ℕ → Bool
assumed x v = all_true x x.required v

-- v is a valuation of the sheet with the assumption bit 1
unfoldable pub allowed : RuleSheet → ℕ → Bool
allowed x v = ltb v (2 ^ streams x) && assumed x v

-- each valuation of the list, with p before it and nothing after it, satisfies all equations with its neighbours and has the
-- assumption bit 1
abbrev pub Follows : RuleSheet → Option ℕ → List ℕ → Type 0
Follows x p [] = Unit {0}
Follows x p (v ∷ vs) = T (allowed x v) × T (holds x p v (first vs)) × Follows x (some v) vs

-- the pair (a, b) is live: the assumption bit is 1 in a, and b is the end mark or starts a list that follows a
pub record Live (x : RuleSheet) (a : ℕ) (b : Option ℕ) : Type 0 where
  pub from : T (allowed x a)
  pub rest : List ℕ
  pub starts : first rest ≡ b
  pub satisfies : Follows x (some a) rest

-- r is the exact reach (02, W13). The valuations of a list that makes a pair live are the further rounds to the end: for every live pair some list
-- has at most r of them, and for one live pair no list has fewer.
pub record ExactReach (x : RuleSheet) (r : ℕ) : Type 0 where
  pub enough : (a : ℕ) (b : Option ℕ) → Live x a b → (h : Live x a b) × (length h.rest ≤ r)
  pub needed : (a : ℕ) × (b : Option ℕ) × Live x a b × ((h : Live x a b) → r ≤ length h.rest)

-- a set of pairs
abbrev pub Pairs : Type 0
Pairs = ℕ → Option ℕ → Bool

-- how many pairs of valuations below w are in the set: those with the end mark, then those with b for each b below w
unfoldable pub count_pairs : ℕ → Pairs → ℕ
count_pairs w S = count_below w (λ a. S a none) + sum_below w (λ b. count_below w (λ a. S a (some b)))
