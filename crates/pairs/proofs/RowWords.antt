-- Rows of words: their lanes, written one word after the other.
use Rattle.std.proofs.Common.{◌≡◌, ℕ, ◌+◌, ◌*◌, ◌/◌, ◌%◌, ◌≤◌, ◌<◌, Bool, List, length, get_or, slice_set, length-set, ap, ap₂, ◌∙◌, arith}
use Rattle.words.specs.Bits.{bit}
use Rattle.words.proofs.ListLaws.{set_more}
use Rattle.pairs.specs.Changes.{row_bit, RowOf}

-- the first j of w words have their lanes
pub record Filling (w : ℕ) (g : ℕ → Bool) (f : List ℕ) (j : ℕ) : Type 0 where
  pub within : j ≤ w
  pub size : length f ≡ 4
  pub done : (k i : ℕ) → k < j → i < 64 → bit i (get_or f k 0) ≡ g (64 * k + i)

pub filling_none : (w : ℕ) (g : ℕ → Bool) (f : List ℕ) → length f ≡ 4 → Filling w g f 0
filling_none w g f l = record { within = omega arith; size = l; done = λ k i h. absurd (omega arith) }

pub filling_more : (w : ℕ) (g : ℕ → Bool) (f : List ℕ) (j x : ℕ) → w ≤ 4 → j < w → Filling w g f j → ((i : ℕ) → i < 64 → bit i x ≡ g (64 * j + i)) → Filling w g (slice_set f j x) (j + 1)
filling_more w g f j x l h p e = record {
  within = omega arith;
  size = length-set f j x ∙ p.size;
  done = λ k i a. set_more (λ k v. (i : ℕ) → i < 64 → bit i v ≡ g (64 * k + i)) f j x (omega (arith, p.size)) e (λ k a i. p.done k i a) k a i;
}

-- a row known word by word
pub row-of : (w : ℕ) (f : List ℕ) (g : ℕ → Bool) → ((j i : ℕ) → j < w → i < 64 → bit i (get_or f j 0) ≡ g (64 * j + i)) → RowOf w f g
unfolding row_bit
row-of w f g h b l =
    let e : 0 + b / 64 ≡ b / 64 = omega arith in
    let q : 64 * (b / 64) + b % 64 ≡ b = omega arith in
    ap (λ (z : ℕ). bit (b % 64) (get_or f z 0)) e ∙ h (b / 64) (b % 64) (omega arith) (omega arith) ∙ ap g q

pub filling_all : (w : ℕ) (g : ℕ → Bool) (f : List ℕ) (j : ℕ) → w ≤ j → Filling w g f j → RowOf w f g
filling_all w g f j h p = row-of w f g (λ k i l. p.done k i (omega arith))

-- lane i of word j of a row
pub row_lane : (f : List ℕ) (j i : ℕ) → i < 64 → row_bit f 0 (64 * j + i) ≡ bit i (get_or f j 0)
unfolding row_bit
row_lane f j i h =
    let p : (64 * j + i) % 64 ≡ i = omega arith in
    let q : 0 + (64 * j + i) / 64 ≡ j = omega arith in
    ap₂ (λ (x y : ℕ). bit x (get_or f y 0)) p q
