-- The search for the next bit that is set.
use mathlib.Core.Path.{◌≡◌, sym, ap, ap₂, ◌∙◌, subst}
use mathlib.Core.Bool.{Bool, false, ◌||◌}
use mathlib.Core.List.{List}
use Prim.Native.Nat.{ℕ, ◌+◌, ◌-◌, ◌*◌, ◌/◌, ◌%◌, ◌^◌, ◌≤◌, ◌<◌}
use native.Mathlib.Omega.{arith}
use native.Mathlib.Decide.{dec_lt}
use lib.ListN.{get_or, length}
use lib.Count.{count_trailing_zeros}
use lib.Pow.{shr_le}
use Rattle.words.specs.Bits.{bit}
use Rattle.words.specs.Below.{any_below}
use Rattle.words.proofs.AnyLaws.{any_add, none_any}
use Rattle.words.proofs.BitLaws.{bit-shr, bit_high, bit-none, Lowest, lowest}
use Rattle.words.proofs.Bools.{contrary}
use Rattle.std.specs.Prelude.{Option as Maybe, Some, None}
use Rattle.pairs.specs.Changes.{row_bit, FirstFrom, NextBit, NextMember}
use Rattle.pairs.specs.Storage.{stored, word_of, slot}
use Rattle.std.proofs.Math.Option.{some}

-- no bit from `from` on is set below b
abbrev pub NoneBelow : List ℕ → ℕ → ℕ → Type 0
NoneBelow s from b = (x : ℕ) → from ≤ x → x < b → row_bit s 0 x ≡ false

-- bits of words, each below 2 ^ 64
module _ (s : List ℕ) (n from : ℕ) where
  -- bit b + i of the row is bit i of the word shifted
  shifted : (b i : ℕ) → b % 64 + i < 64 → row_bit s 0 (b + i) ≡ bit i (get_or s (b / 64) 0 / 2 ^ (b % 64))
  unfolding row_bit
  shifted b i h =
      let p : (b + i) % 64 ≡ b % 64 + i = omega arith in
      let q : 0 + (b + i) / 64 ≡ b / 64 = omega arith in
      ap₂ (λ (x y : ℕ). bit x (get_or s y 0)) p q ∙ sym (bit-shr i (b % 64) (get_or s (b / 64) 0))

  module _ (b : ℕ) (none_yet : NoneBelow s from b) where
    abbrev w : ℕ
    w = get_or s (b / 64) 0 / 2 ^ (b % 64)

    -- the lowest bit of the word's rest
    pub found_at : from ≤ b → b < 64 * n → get_or s (b / 64) 0 < 2 ^ 64 → (w ≡ 0 → ⊥) → FirstFrom (row_bit s 0) (64 * n) from (Some (b + count_trailing_zeros 64 w))
    found_at l h fit ne =
        let g : b % 64 + t < 64 = inside in
        (omega arith, omega arith, λ x d e. skip x d e (dec_lt x b), shifted b t g ∙ low.is_set)
      where
        t : ℕ
        t = count_trailing_zeros 64 w

        low : Lowest 64 w t
        low = lowest 64 w (let g : w ≤ get_or s (b / 64) 0 = shr_le (get_or s (b / 64) 0) (b % 64) in omega arith) ne

        inside : b % 64 + t < 64
        inside = go (dec_lt (b % 64 + t) 64)
          where
            go : Dec (b % 64 + t < 64) → b % 64 + t < 64
            go (yes d) = d
            go (no d) =
                contrary (sym (bit-shr t (b % 64) (get_or s (b / 64) 0)) ∙ low.is_set)
                (bit_high 64 (b % 64 + t) (get_or s (b / 64) 0) fit (omega arith))

        skip : (x : ℕ) → from ≤ x → x < b + t → Dec (x < b) → row_bit s 0 x ≡ false
        skip x d e (yes k) = none_yet x d k
        skip x d e (no k) =
            let g : b % 64 + t < 64 = inside in
            let q : x ≡ b + (x - b) = omega arith in
            ap (row_bit s 0) q ∙ shifted b (x - b) (omega arith) ∙ low.clear (x - b) (omega arith)

    -- a word whose rest is 0
    pub none-more : w ≡ 0 → NoneBelow s from (64 * (b / 64 + 1))
    none-more z x d e = go (dec_lt x b)
      where
        go : Dec (x < b) → row_bit s 0 x ≡ false
        go (yes k) = none_yet x d k
        go (no k) =
            let q : x ≡ b + (x - b) = omega arith in
            ap (row_bit s 0) q ∙ shifted b (x - b) (omega arith) ∙ ap (bit (x - b)) z ∙ bit-none (x - b)

  -- whole words: the rest of word j from bit 64 j on is the word
  whole : (j : ℕ) → get_or s (64 * j / 64) 0 / 2 ^ (64 * j % 64) ≡ get_or s j 0
  whole j =
      let p : 64 * j / 64 ≡ j = omega arith in
      let o : 64 * j % 64 ≡ 0 = omega arith in
      let one : get_or s j 0 / 2 ^ 0 ≡ get_or s j 0 = omega arith in
      ap₂ (λ (x y : ℕ). get_or s x 0 / 2 ^ y) p o ∙ one

  pub found_word : (j : ℕ) → NoneBelow s from (64 * j) → from ≤ 64 * j → j < n → get_or s j 0 < 2 ^ 64 → (get_or s j 0 ≡ 0 → ⊥)
      → FirstFrom (row_bit s 0) (64 * n) from (Some (64 * j + count_trailing_zeros 64 (get_or s j 0)))
  found_word j none_yet l h fit ne =
      let p : 64 * j / 64 ≡ j = omega arith in
      subst (λ (x : ℕ). FirstFrom (row_bit s 0) (64 * n) from (Some (64 * j + count_trailing_zeros 64 x))) (whole j)
      (found_at (64 * j) none_yet l (omega arith) (subst (λ (k : ℕ). get_or s k 0 < 2 ^ 64) (sym p) fit) (λ e. ne (sym (whole j) ∙ e)))

  pub none_word : (j : ℕ) → NoneBelow s from (64 * j) → get_or s j 0 ≡ 0 → NoneBelow s from (64 * (j + 1))
  none_word j none_yet z =
      let p : 64 * (64 * j / 64 + 1) ≡ 64 * (j + 1) = omega arith in
      subst (NoneBelow s from) p (none-more (64 * j) none_yet (whole j ∙ z))

-- a test that is another as far as the search goes
pub first_same : (p q : ℕ → Bool) (n from : ℕ) (o : Maybe ℕ) → ((x : ℕ) → x < n → p x ≡ q x) → FirstFrom p n from o → FirstFrom q n from o
first_same p q n from None same h = λ x l g. sym (same x g) ∙ h x l g
first_same p q n from (Some r) same h = (h.0, h.1, λ x l g. sym (same x (omega (arith, h.1))) ∙ h.2 x l g, sym (same r h.1) ∙ h.3)

-- words that are equal as far as the search goes
pub next-same : (s t : List ℕ) (w from : ℕ) (o : Maybe ℕ) → length t ≡ w → ((k : ℕ) → k < w → get_or t k 0 ≡ get_or s k 0) → NextBit t (length t) from o → NextBit s w from o
unfolding row_bit
next-same s t w from o l same h = first_same (row_bit t 0) (row_bit s 0) (64 * w) from o (λ x g. let e : 0 + x / 64 ≡ x / 64 = omega arith in ap (λ (k : ℕ). bit (x % 64) (get_or t k 0)) e ∙ ap (bit (x % 64)) (same (x / 64) (omega arith)) ∙ ap (λ (k : ℕ). bit (x % 64) (get_or s k 0)) (sym e)) (subst (λ (n : ℕ). NextBit t n from o) l h)

-- the words of a row of a set
pub next_in_row : (s t : List ℕ) (base a w from : ℕ) (o : Maybe ℕ) → length t ≡ w → ((k : ℕ) → k < w → get_or t k 0 ≡ get_or s (base + (4 * a + k)) 0) → NextBit t (length t) from o
    → NextMember (stored s base) a w from o
unfolding row_bit stored word_of slot
next_in_row s t base a w from o l same h =
    first_same (row_bit t 0) (λ b. stored s base a (some b)) (64 * w) from o (λ x g. ap (bit (x % 64)) (let e : 0 + x / 64 ≡ x / 64 = omega arith in ap (λ (k : ℕ). get_or t k 0) e ∙ same (x / 64) (omega arith)))
    (subst (λ (n : ℕ). NextBit t n from o) l h)

-- numbers that are passed over
pub any_skip : (c c' : ℕ) (p : ℕ → Bool) → c ≤ c' → ((x : ℕ) → c ≤ x → x < c' → p x ≡ false) → any_below c p ≡ any_below c' p
any_skip c c' p l h =
    let e : c' ≡ c + (c' - c) = omega arith in
    sym (ap (λ (k : ℕ). any_below k p) e ∙ any_add c (c' - c) p
    ∙ ap (λ (u : Bool). u || any_below c p) (none_any (c' - c) (λ i. p (c + i)) (λ i g. h (c + i) (omega arith) (omega arith))))
