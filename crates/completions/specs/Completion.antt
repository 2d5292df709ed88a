-- Completions (01, "Completions and verdicts"; 02, W4): lists of letters that match what was heard and keep the assumption to their end.
-- Manual: "Completions and verdicts".
use Rattle.std.specs.Prelude.{Bool, ◌≡◌, List, [], ◌∷◌, map, ℕ, ◌≤◌, T, eqb, length}
use Rattle.std.proofs.Math.Option.{none}
use Rattle.std.specs.Int.Bits.{bit_and}
use Rattle.words.specs.Bits.{bit}
use Rattle.sheet.specs.RuleSheet.{RuleSheet}
use Rattle.lola.specs.Equations.{Satisfies, Letters, letter}
use Rattle.completions.specs.Live.{assumed}

-- what a round says of its letter: the letters that pass are the round's set
abbrev pub LetterSet : Type 0
LetterSet = ℕ → Bool

-- a round given by a number: bit l says that letter l is in the set (02, W4)
abbrev pub members : ℕ → LetterSet
members w l = bit l w

-- a round given by a known mask and a value mask: the letter has the value's bits where they are known
unfoldable pub masked : ℕ → ℕ → LetterSet
masked known val l = eqb (bit_and l known) val

-- the first letters match the rounds
abbrev pub Match : List LetterSet → List ℕ → Type 0
Match [] ls = Unit {0}
Match (r ∷ rs) [] = ⊥
Match (r ∷ rs) (l ∷ ls) = T (r l) × Match rs ls

-- the assumption output, if there is one, is true in each round
abbrev pub Keeps : RuleSheet → List ℕ → Type 0
Keeps x [] = Unit {0}
Keeps x (v ∷ vs) = T (assumed x v) × Keeps x vs

-- A completion of the rounds rs: N letters, N at least 1 and at least the number of rounds, whose first letters match the rounds and
-- in whose trace (the values that the equations give these letters) the assumption is true in all N rounds.
pub record Completion (x : RuleSheet) (rs : List LetterSet) (ls : List ℕ) : Type 0 where
  pub some_round : 1 ≤ length ls
  pub letters : Letters x.inputs ls
  pub starts : Match rs ls
  pub trace : List ℕ
  pub of : map (letter x) trace ≡ ls
  pub satisfies : Satisfies x none trace
  pub keeps : Keeps x trace

-- a completion with no further round
pub record Closing (x : RuleSheet) (rs : List LetterSet) (ls : List ℕ) : Type 0 where
  pub complete : Completion x rs ls
  pub ends : length ls ≡ length rs
