-- Laws of sums below a bound, and of counts of the numbers that pass a test.
use mathlib.Core.Path.{◌≡◌, refl, sym, ap, ap₂, ◌∙◌}
use mathlib.Core.Bool.{Bool, true, false, not}
use mathlib.Core.Logic.{◌⊎◌, inl, inr}
use Prim.Native.Nat.{ℕ, zero, suc, ◌+◌, ◌*◌, ◌/◌, ◌^◌, ◌<◌, ◌≤◌}
use native.Mathlib.Nat.{add-suc, add-zero, suc-mul, zero-mul, not-suc-le-zero, eq-or-lt_of_le, le_of_suc-le-suc}
use native.Mathlib.Numerals.{add-one}
use native.Mathlib.Omega.{arith}
use lib.Count.{ones, ones_step}
use lib.Dec.{T}
use Rattle.words.specs.Bits.{digit, bit}
use Rattle.words.specs.Below.{sum_below, count_below, one}
use Rattle.words.proofs.BitLaws.{digit-zero, digit-suc, digit-of}

pub sum_cong : (n : ℕ) (f g : ℕ → ℕ) → ((i : ℕ) → i < n → f i ≡ g i) → sum_below n f ≡ sum_below n g
unfolding sum_below
sum_cong zero f g h = refl
sum_cong (suc n) f g h = ap₂ ◌+◌ (h n (omega arith)) (sum_cong n f g (λ i l. h i (omega arith)))

-- one term more, as a loop has it
pub sum_one : (n : ℕ) (f : ℕ → ℕ) → sum_below (n + 1) f ≡ f n + sum_below n f
unfolding sum_below
sum_one n f = rw (add-one n)

-- the lowest term first
sum_low : (n : ℕ) (f : ℕ → ℕ) → sum_below (suc n) f ≡ f 0 + sum_below n (λ i. f (suc i))
unfolding sum_below
sum_low zero f = refl
sum_low (suc n) f = omega (arith, sum_low n f)

pub sum_add : (m n : ℕ) (f : ℕ → ℕ) → sum_below (m + n) f ≡ sum_below m f + sum_below n (λ i. f (m + i))
unfolding sum_below
sum_add m zero f = rw (add-zero m) (omega arith)
sum_add m (suc n) f = rw (add-suc m n) (omega (arith, sum_add m n f))

-- the terms in n groups of c
pub sum_groups : (n c : ℕ) (f : ℕ → ℕ) → sum_below (n * c) f ≡ sum_below n (λ j. sum_below c (λ i. f (j * c + i)))
unfolding sum_below
sum_groups zero c f = ap (λ (k : ℕ). sum_below k f) (zero-mul c)
sum_groups (suc n) c f =
    ap (λ (k : ℕ). sum_below k f) (suc-mul n c) ∙ sum_add (n * c) c f ∙ omega (arith, sum_groups n c f)

pub sum_le : (n : ℕ) (g h : ℕ → ℕ) → ((i : ℕ) → i < n → g i ≤ h i) → sum_below n g ≤ sum_below n h
unfolding sum_below
sum_le zero g h le = omega arith
sum_le (suc n) g h le = omega (arith, le n (omega arith), sum_le n g h (λ i k. le i (omega arith)))

pub sum_lt : (n : ℕ) (g h : ℕ → ℕ) → ((i : ℕ) → i < n → g i ≤ h i) → (j : ℕ) → j < n → g j < h j → sum_below n g < sum_below n h
unfolding sum_below
sum_lt zero g h le j k l = absurd (not-suc-le-zero k)
sum_lt (suc n) g h le j k l = go (sum_lt n g h (λ i m. le i (omega arith)) j) (eq-or-lt_of_le (le_of_suc-le-suc k))
  where
    go : (j < n → g j < h j → sum_below n g < sum_below n h) → (j ≡ n) ⊎ (j < n) → g n + sum_below n g < h n + sum_below n h
    go rest (inl e) =
        let here : g n < h n = rw e at l in
        omega (arith, sum_le n g h (λ i m. le i (omega arith)))
    go rest (inr m) = omega (arith, rest m l, le n (omega arith))

pub sum_bound : (n : ℕ) (g : ℕ → ℕ) (m : ℕ) → ((i : ℕ) → i < n → g i ≤ m) → sum_below n g ≤ n * m
unfolding sum_below
sum_bound zero g m le = omega arith
sum_bound (suc n) g m le = omega (arith, suc-mul n m, le n (omega arith), sum_bound n g m (λ i k. le i (omega arith)))

pub sum_nothing : (n : ℕ) (g : ℕ → ℕ) → ((i : ℕ) → i < n → g i ≡ 0) → sum_below n g ≡ 0
unfolding sum_below
sum_nothing zero g h = refl
sum_nothing (suc n) g h = omega (arith, h n (omega arith), sum_nothing n g (λ i k. h i (omega arith)))

sum_plus : (m : ℕ) (f g : ℕ → ℕ) → sum_below m (λ a. f a + g a) ≡ sum_below m f + sum_below m g
unfolding sum_below
sum_plus zero f g = refl
sum_plus (suc m) f g = omega (arith, sum_plus m f g)

-- the order of two sums
pub sum_swap : (n m : ℕ) (g : ℕ → ℕ → ℕ) → sum_below n (λ b. sum_below m (λ a. g a b)) ≡ sum_below m (λ a. sum_below n (λ b. g a b))
unfolding sum_below
sum_swap zero m g = sym (sum_nothing m (λ a. 0) (λ i h. refl))
sum_swap (suc n) m g = ap (λ (k : ℕ). sum_below m (λ a. g a n) + k) (sum_swap n m g) ∙ sym (sum_plus m (λ a. g a n) (λ a. sum_below n (λ b. g a b)))

-- ---- numbers that pass a test

one_le : (x y : Bool) → (T x → T y) → one x ≤ one y
one_le false y f = omega arith
one_le true true f = omega arith
one_le true false f = absurd (f tt)

one_lt : (x y : Bool) → T (not x) → T y → one x < one y
one_lt true y n t = absurd n
one_lt false true n t = omega arith
one_lt false false n t = absurd t

pub one_le_one : (x : Bool) → one x ≤ 1
one_le_one true = omega arith
one_le_one false = omega arith

module _ (n : ℕ) (f g : ℕ → Bool) (sub : (i : ℕ) → i < n → T (f i) → T (g i)) where
  pub count-le : count_below n f ≤ count_below n g
  unfolding count_below
  count-le = sum_le n (λ i. one (f i)) (λ i. one (g i)) (λ i h. one_le (f i) (g i) (sub i h))

  pub count-lt : (j : ℕ) → j < n → T (not (f j)) → T (g j) → count_below n f < count_below n g
  unfolding count_below
  count-lt j h x y = sum_lt n (λ i. one (f i)) (λ i. one (g i)) (λ i k. one_le (f i) (g i) (sub i k)) j h (one_lt (f j) (g j) x y)

pub count-bound : (n : ℕ) (f : ℕ → Bool) → count_below n f ≤ n * 1
unfolding count_below
count-bound n f = sum_bound n (λ i. one (f i)) 1 (λ i h. one_le_one (f i))

one_none : (x : Bool) → (T x → ⊥) → one x ≡ 0
one_none true h = absurd (h tt)
one_none false h = refl

pub count_none : (n : ℕ) (f : ℕ → Bool) → ((i : ℕ) → T (f i) → ⊥) → count_below n f ≡ 0
unfolding count_below
count_none n f h = sum_nothing n (λ i. one (f i)) (λ i k. one_none (f i) (h i))

-- a wider search counts nothing more where all that passes lies below the narrower bound
pub count_wider : (p q : ℕ) (f : ℕ → Bool) → ((i : ℕ) → T (f i) → i < p) → count_below (p + q) f ≡ count_below p f
unfolding count_below
count_wider p q f h =
    let rest : sum_below q (λ i. one (f (p + i))) ≡ 0 = sum_nothing q (λ i. one (f (p + i))) (λ i k. one_none (f (p + i)) (λ t. omega (arith, h (p + i) t))) in
    omega (arith, sum_add p q (λ i. one (f i)))

-- ---- the ones of a word

-- the set digits of a number of k digits
ones_digits : (k w : ℕ) → w < 2 ^ k → ones w ≡ sum_below k (λ i. digit i w)
unfolding sum_below ones
ones_digits zero w h = let e : w ≡ 0 = omega arith in ap ones e
ones_digits (suc k) w h =
    ones_step w ∙ ap₂ ◌+◌ (sym (digit-zero w)) (ones_digits k (w / 2) (omega arith) ∙ sum_cong k _ _ (λ i l. sym (digit-suc i w)))
    ∙ sym (sum_low k (λ i. digit i w))

pub ones_bits : (k w : ℕ) → w < 2 ^ k → ones w ≡ count_below k (λ i. bit i w)
unfolding count_below
ones_bits k w h = ones_digits k w h ∙ sum_cong k _ _ (λ i l. digit-of i w)
