-- For the contracts of inner functions: the pairs that a set gains, row by row.
use Rattle.std.specs.Prelude.{◌≡◌, Bool, false, not, ◌&&◌, List, ℕ, ◌%◌, ◌<◌, ◌≤◌, eqb, ltb}
use Rattle.std.proofs.Math.Option.{Option, none, some}
use Rattle.std.specs.Int.Bits.{bit_and}
use Rattle.words.specs.Bits.{bit}
use Rattle.words.specs.Below.{any_below}
use Rattle.sheet.specs.RuleSheet.{RuleSheet}
use Rattle.lola.specs.Equations.{holds}
use Rattle.completions.specs.Live.{Pairs}
use Rattle.completions.specs.Steps.{part_below}
use Rattle.pairs.specs.Changes.{row_bit}

-- v was heard, as its lane of the round's letters tells: the inputs, at most 6, are the low bits of the lane's number too
unfoldable pub among : ℕ → ℕ → Bool
among letters v = bit (v % 64) letters

-- c is a valuation that passes the test
abbrev pub cut : (ℕ → Bool) → Option ℕ → Bool
cut f none = false
cut f (some c) = f c

-- the pairs (b, c) of L with b in B and c in C for which the equations hold at b, after p and before c
unfoldable pub gains : RuleSheet → (ℕ → Bool) → (Option ℕ → Bool) → Pairs → Option ℕ → Pairs
gains x B C L p b c = B b && (C c && (L b c && holds x p b c))

-- row b of S has every valuation below v of row b of L
abbrev pub NoneNew : Pairs → Pairs → ℕ → ℕ → Type 0
NoneNew L S v b = (c : ℕ) → c < v → (L b (some c) && not (S b (some c))) ≡ false

-- S has the end of every valuation below v of row g of G whose end L has
abbrev pub NoEndNew : Pairs → Pairs → Pairs → ℕ → ℕ → Type 0
NoEndNew L S G v g = (b : ℕ) → b < v → ((G g (some b) && L b none) && not (S b none)) ≡ false

-- the valuations of a row that are below w
abbrev pub in_row : Pairs → ℕ → ℕ → ℕ → Bool
in_row G w a b = ltb b w && G a (some b)

-- in row 0, the valuations below v that pass the test, those below w of them
abbrev pub heard_first : ℕ → (ℕ → Bool) → ℕ → Pairs
heard_first v r w a c = eqb a 0 && cut (λ b. ltb b w && (ltb b v && r b)) c

-- the pairs that the rows below k of G bring
unfoldable pub brought : RuleSheet → Pairs → ℕ → Pairs → ℕ → Pairs
brought x G w L k b c = any_below k (λ a. gains x (in_row G w a) (part_below w) L (some a) b c)

-- row a of S: the valuations below w that pass the test
abbrev pub heard_in : Pairs → (ℕ → Bool) → ℕ → ℕ → Option ℕ → Bool
heard_in S r w a = cut (λ b. ltb b w && (S a (some b) && r b))

-- the rows below k of S, each put into the row of what the mask leaves of its number, the valuations below w of it that pass the test
unfoldable pub grouped : Pairs → (ℕ → Bool) → ℕ → ℕ → ℕ → Pairs
grouped S r mask w k g c = any_below k (λ a. eqb g (bit_and a mask) && heard_in S r w a c)

-- of the rows below w, those that are not in the row of words have no valuation
abbrev pub Sparse : ℕ → List ℕ → Pairs → Type 0
Sparse w groups G = (g : ℕ) → g < w → row_bit groups 0 g ≡ false → (b : ℕ) → b < 256 → G g (some b) ≡ false

-- no valuation has the end mark after it
abbrev pub NoEnds : Pairs → Type 0
NoEnds G = (b : ℕ) → b < 256 → G b none ≡ false

-- the rows from a on, those below b, have no valuation
abbrev pub Quiet : Pairs → ℕ → ℕ → Type 0
Quiet S a b = (x y : ℕ) → a ≤ x → x < b → y < 256 → S x (some y) ≡ false
