-- For the contracts of inner functions: what the functions on stored sets do.
use Rattle.std.specs.Prelude.{◌≡◌, Bool, true, false, cond, not, ◌&&◌, ◌||◌, List, ℕ, ◌+◌, ◌*◌, ◌/◌, ◌%◌, ◌<◌, ◌≤◌, eqb, length, get_or, Option as Maybe, MatchOption}
use Rattle.std.proofs.Math.Option.{Option, none, some}
use Rattle.words.specs.Bits.{bit}
use Rattle.completions.specs.Live.{Pairs}
use Rattle.completions.specs.Steps.{Within}
use Rattle.pairs.specs.Storage.{stored, used, set_words, live_at, reached_at, scratch_at}
use Rattle.pairs.specs.declared.PairSet.{PairSet}
use Rattle.pairs.specs.declared.PairSet.TheVariants.{Live, Reached, Scratch}

-- the word that the set begins with
abbrev pub base_of : PairSet → ℕ
base_of Live = live_at
base_of Reached = reached_at
base_of Scratch = scratch_at

-- the same second part
unfoldable pub eq_next : Option ℕ → Option ℕ → Bool
eq_next none none = true
eq_next none (some c) = false
eq_next (some b) none = false
eq_next (some b) (some c) = eqb b c

-- the second part is a valuation 64 j + i whose lane i of x is set
unfoldable pub in_word : ℕ → ℕ → Option ℕ → Bool
in_word j x none = false
in_word j x (some c) = eqb (c / 64) j && bit (c % 64) x

-- x is word j of row a of the set
abbrev pub RowWord : Pairs → ℕ → ℕ → ℕ → Type 0
RowWord S a j x = (i : ℕ) → i < 64 → bit i x ≡ S a (some (64 * j + i))

-- x is word j of the set's ends
abbrev pub EndsWord : Pairs → ℕ → ℕ → Type 0
EndsWord S j x = (i : ℕ) → i < 64 → bit i x ≡ S (64 * j + i) none

-- no word outside the n words from `at` on is changed
pub record Framed (at n : ℕ) (s t : List ℕ) : Type 0 where
  pub same_length : length t ≡ length s
  pub before : (k : ℕ) → k < at → get_or t k 0 ≡ get_or s k 0
  pub beyond : (k : ℕ) → at + n ≤ k → get_or t k 0 ≡ get_or s k 0

-- the set at `base` has gained the pairs P, and no other word is changed
pub record Adds (base : ℕ) (s t : List ℕ) (P : Pairs) : Type 0 where
  pub frame : Framed base set_words s t
  pub adds : (x : ℕ) (y : Option ℕ) → x < 256 → Within 256 y → stored t base x y ≡ (stored s base x y || P x y)

-- bit x of the words from `at` on
unfoldable pub row_bit : List ℕ → ℕ → ℕ → Bool
row_bit s at x = bit (x % 64) (get_or s (at + x / 64) 0)

-- the first w words of the row have the valuations that pass the test
abbrev pub RowOf : ℕ → List ℕ → (ℕ → Bool) → Type 0
RowOf w row g = (b : ℕ) → b < 64 * w → row_bit row 0 b ≡ g b

-- each of w words, as it is given, has the valuations that pass the test
abbrev pub GivesRow : ℕ → (ℕ → ℕ → Type 0) → (ℕ → Bool) → Type 0
GivesRow w word g = (j : ℕ) → j < w → (x : ℕ) → word j x → (i : ℕ) → i < 64 → bit i x ≡ g (64 * j + i)

-- a row of words has gained a
pub record Noted (a : ℕ) (s t : List ℕ) : Type 0 where
  pub same_length : length t ≡ length s
  pub gains : (x : ℕ) → x < 256 → row_bit t 0 x ≡ (row_bit s 0 x || eqb x a)

-- r is the first number from `from` on below n that passes the test, or there is none
abbrev pub FirstFrom : (ℕ → Bool) → ℕ → ℕ → Maybe ℕ → Type 0
FirstFrom p n from o =
    MatchOption o ((x : ℕ) → from ≤ x → x < n → p x ≡ false)
    (λ r. (from ≤ r) × (r < n) × ((x : ℕ) → from ≤ x → x < r → p x ≡ false) × (p r ≡ true))

-- the first bit from `from` on that is set among w words
abbrev pub NextBit : List ℕ → ℕ → ℕ → Maybe ℕ → Type 0
NextBit s w from o = FirstFrom (row_bit s 0) (64 * w) from o

-- the first valuation from `from` on in the first w words of row a of the set
abbrev pub NextMember : Pairs → ℕ → ℕ → ℕ → Maybe ℕ → Type 0
NextMember S a w from o = FirstFrom (λ b. S a (some b)) (64 * w) from o

-- n words from `at` on are 0, and no others are changed
pub record Zeroed (at n : ℕ) (s t : List ℕ) : Type 0 where
  pub frame : Framed at n s t
  pub zero_now : (k : ℕ) → k < n → get_or t (at + k) 0 ≡ 0

-- the words that v valuations use of the set at `base` are 0, and no others are changed
pub record RowsCleared (base v : ℕ) (s t : List ℕ) : Type 0 where
  pub frame : Framed base set_words s t
  pub emptied : (x : ℕ) (y : Option ℕ) → x < 256 → Within 256 y → stored t base x y ≡ cond (used v x y) false (stored s base x y)

-- row a of the set at `base` has no pair, and all else is as it was
pub record RowTaken (base a : ℕ) (s t : List ℕ) : Type 0 where
  pub frame : Framed base set_words s t
  pub taken : (x : ℕ) (y : Option ℕ) → x < 256 → Within 256 y → stored t base x y ≡ (stored s base x y && not (eqb x a))
