-- Laws of a word's digits and bits.
use mathlib.Core.Path.{◌≡◌, refl, sym, ap, ap₂, ◌∙◌}
use mathlib.Core.Logic.{◌⊎◌, inl, inr, ⊎_elim}
use mathlib.Core.Bool.{Bool, true, false, not, ◌&&◌, ◌||◌, and-false, true≢false}
use Prim.Native.Nat.{ℕ, zero, suc, ◌+◌, ◌-◌, ◌*◌, ◌/◌, ◌%◌, ◌^◌, ◌≤◌, ◌<◌, min, max}
use native.Mathlib.Nat.{div-eq_of_lt, div-div-eq-div-mul, pow-suc, mul_comm, zero-div, div-one}
use native.Mathlib.Omega.{arith}
use native.Mathlib.Decide.{ℕ_discrete}
use lib.Dec.{eqb}
use lib.Bits.{bit_and, bit_or, and_le_l, and_shr, or_shr, and_step, or_step}
use lib.Pow.{pow-lt, pow_pos, pow_mono, shr-shr}
use lib.Count.{count_trailing_zeros, under}
use borrow.Author.Tests.{eq-eqb, ne_eqb}
use Rattle.words.specs.Bits.{digit, bit}
use Rattle.words.specs.Below.{one}

-- ---- digits

digit_lt : (i w : ℕ) → digit i w < 2
unfolding digit
digit_lt i w = omega arith

pub digit-zero : (w : ℕ) → digit 0 w ≡ w % 2
unfolding digit
digit-zero w = ap (λ (x : ℕ). x % 2) (div-one w)

-- the digits above the lowest are those of the half
pub digit-suc : (i w : ℕ) → digit (suc i) w ≡ digit i (w / 2)
unfolding digit
digit-suc i w =
    ap (λ (x : ℕ). w / x % 2) (pow-suc 2 i ∙ mul_comm (2 ^ i) 2) ∙ ap (λ (x : ℕ). x % 2) (sym (div-div-eq-div-mul w 2 (2 ^ i)))

digit_and : (i x y : ℕ) → digit i (bit_and x y) ≡ min (digit i x) (digit i y)
unfolding digit
digit_and i x y = ap (λ (z : ℕ). z % 2) (and_shr x y i) ∙ omega (arith, and_step (x / 2 ^ i) (y / 2 ^ i))

digit_or : (i x y : ℕ) → digit i (bit_or x y) ≡ max (digit i x) (digit i y)
unfolding digit
digit_or i x y = ap (λ (z : ℕ). z % 2) (or_shr x y i) ∙ omega (arith, or_step (x / 2 ^ i) (y / 2 ^ i))

digit-none : (i : ℕ) → digit i 0 ≡ 0
unfolding digit
digit-none i = ap (λ (x : ℕ). x % 2) (zero-div (2 ^ i))

-- the complement in k digits
digit_not : (k i x : ℕ) → i < k → x < 2 ^ k → digit i ((2 ^ k - 1) - x) ≡ 1 - digit i x
digit_not zero i x h l = omega arith
digit_not (suc k) zero x h l = omega (arith, digit-zero ((2 ^ suc k - 1) - x), digit-zero x)
digit_not (suc k) (suc i) x h l =
    let half : ((2 ^ suc k - 1) - x) / 2 ≡ (2 ^ k - 1) - x / 2 = omega arith in
    let lt : x / 2 < 2 ^ k = omega arith in
    omega (arith, digit-suc i ((2 ^ suc k - 1) - x), digit-suc i x, ap (digit i) half, digit_not k i (x / 2) (omega arith) lt)

-- a power of two has one digit set
digit-pow-same : (k : ℕ) → digit k (2 ^ k) ≡ 1
digit-pow-same zero = omega (arith, digit-zero 1)
digit-pow-same (suc k) =
    let half : 2 ^ suc k / 2 ≡ 2 ^ k = omega arith in
    digit-suc k (2 ^ suc k) ∙ ap (digit k) half ∙ digit-pow-same k

digit_pow_other : (i k : ℕ) → (i ≡ k → ⊥) → digit i (2 ^ k) ≡ 0
digit_pow_other zero zero h = absurd (h refl)
digit_pow_other zero (suc k) h = omega (arith, digit-zero (2 ^ suc k))
digit_pow_other (suc i) zero h = digit-suc i 1 ∙ digit-none i
digit_pow_other (suc i) (suc k) h =
    let half : 2 ^ suc k / 2 ≡ 2 ^ k = omega arith in
    digit-suc i (2 ^ suc k) ∙ ap (digit i) half ∙ digit_pow_other i k (λ e. h (ap suc e))

-- a number of k digits is known by them
digits_ext : (k x y : ℕ) → x < 2 ^ k → y < 2 ^ k → ((i : ℕ) → i < k → digit i x ≡ digit i y) → x ≡ y
digits_ext zero x y h l e = omega arith
digits_ext (suc k) x y h l e =
    let low : x % 2 ≡ y % 2 = sym (digit-zero x) ∙ e 0 (omega arith) ∙ digit-zero y in
    let high : x / 2 ≡ y / 2 =
    digits_ext k (x / 2) (y / 2) (omega arith) (omega arith) (λ i g. sym (digit-suc i x) ∙ e (suc i) (omega arith) ∙ digit-suc i y)
    in
    omega arith

-- ---- bits

-- the bit from the digit, and back
bit-set : (i w : ℕ) → digit i w ≡ 1 → bit i w ≡ true
unfolding bit
bit-set i w e = ap (λ (x : ℕ). eqb x 1) e

bit_clear : (i w : ℕ) → digit i w ≡ 0 → bit i w ≡ false
unfolding bit
bit_clear i w e = ap (λ (x : ℕ). eqb x 1) e

binary : (i w : ℕ) → (digit i w ≡ 0) ⊎ (digit i w ≡ 1)
binary i w = go (digit i w) refl
  where
    go : (d : ℕ) → digit i w ≡ d → (digit i w ≡ 0) ⊎ (digit i w ≡ 1)
    go zero e = inl e
    go (suc zero) e = inr e
    go (suc (suc d)) e = absurd (omega (arith, digit_lt i w))

pub digit-of : (i w : ℕ) → digit i w ≡ one (bit i w)
digit-of i w = ⊎_elim (λ e. e ∙ ap one (sym (bit_clear i w e))) (λ e. e ∙ ap one (sym (bit-set i w e))) (binary i w)

-- a bit is what its digit says
from-digit : (i w : ℕ) (v : Bool) → digit i w ≡ one v → bit i w ≡ v
from-digit i w true e = bit-set i w e
from-digit i w false e = bit_clear i w e

min_and : (u v : Bool) → min (one u) (one v) ≡ one (u && v)
min_and true true = refl
min_and true false = refl
min_and false true = refl
min_and false false = refl

max_or : (u v : Bool) → max (one u) (one v) ≡ one (u || v)
max_or true true = refl
max_or true false = refl
max_or false true = refl
max_or false false = refl

less_not : (u : Bool) → 1 - one u ≡ one (not u)
less_not true = refl
less_not false = refl

pub bit-and : (i x y : ℕ) → bit i (bit_and x y) ≡ (bit i x && bit i y)
bit-and i x y =
    from-digit i (bit_and x y) (bit i x && bit i y) (digit_and i x y ∙ ap₂ min (digit-of i x) (digit-of i y) ∙ min_and (bit i x) (bit i y))

pub bit-or : (i x y : ℕ) → bit i (bit_or x y) ≡ (bit i x || bit i y)
bit-or i x y =
    from-digit i (bit_or x y) (bit i x || bit i y) (digit_or i x y ∙ ap₂ max (digit-of i x) (digit-of i y) ∙ max_or (bit i x) (bit i y))

pub bit_not : (k i x : ℕ) → i < k → x < 2 ^ k → bit i ((2 ^ k - 1) - x) ≡ not (bit i x)
bit_not k i x h l =
    from-digit i ((2 ^ k - 1) - x) (not (bit i x)) (digit_not k i x h l ∙ ap (λ (d : ℕ). 1 - d) (digit-of i x) ∙ less_not (bit i x))

pub bit-none : (i : ℕ) → bit i 0 ≡ false
bit-none i = bit_clear i 0 (digit-none i)

pub bit-all : (k i : ℕ) → i < k → bit i (2 ^ k - 1) ≡ true
bit-all k i h =
    let e : (2 ^ k - 1) - 0 ≡ 2 ^ k - 1 = omega arith in
    ap (bit i) (sym e) ∙ bit_not k i 0 h (pow_pos k) ∙ ap not (bit-none i)

-- `1 << k` of a word of 64 bits
pub one_shl : (k : ℕ) → k < 64 → 1 * 2 ^ k % 2 ^ 64 ≡ 2 ^ k
one_shl k h = let g : 2 ^ k < 2 ^ 64 = pow-lt h in omega arith

-- a power of 2 has one bit
pub bit-pow : (i k : ℕ) → bit i (2 ^ k) ≡ eqb i k
bit-pow i k = go (ℕ_discrete i k)
  where
    go : Dec (i ≡ k) → bit i (2 ^ k) ≡ eqb i k
    go (yes e) = ap (λ (j : ℕ). bit j (2 ^ k)) e ∙ bit-set k (2 ^ k) (digit-pow-same k) ∙ sym (eq-eqb i k e)
    go (no n) = bit_clear i (2 ^ k) (digit_pow_other i k n) ∙ sym (ne_eqb i k n)

pub bit-shl : (i k : ℕ) → k < 64 → bit i (1 * 2 ^ k % 2 ^ 64) ≡ eqb i k
bit-shl i k h = ap (bit i) (one_shl k h) ∙ bit-pow i k

pub bits_ext : (k x y : ℕ) → x < 2 ^ k → y < 2 ^ k → ((i : ℕ) → i < k → bit i x ≡ bit i y) → x ≡ y
bits_ext k x y h l e = digits_ext k x y h l (λ i g. digit-of i x ∙ ap one (e i g) ∙ sym (digit-of i y))

-- ---- shifts

pub bit-shr : (i s w : ℕ) → bit i (w / 2 ^ s) ≡ bit (s + i) w
unfolding bit digit
bit-shr i s w = ap (λ (x : ℕ). eqb (x % 2) 1) (shr-shr w s i)

-- no bit beyond the width
pub bit_high : (k i w : ℕ) → w < 2 ^ k → k ≤ i → bit i w ≡ false
unfolding bit digit
bit_high k i w h l =
    let g : 2 ^ k ≤ 2 ^ i = pow_mono l in
    let lt : w < 2 ^ i = omega arith in
    let z : w / 2 ^ i ≡ 0 = div-eq_of_lt lt in
    ap (λ (x : ℕ). eqb (x % 2) 1) z

-- the lowest bit
pub record Lowest (k w t : ℕ) : Type 0 where
  pub under_k : t < k
  pub is_set : bit t w ≡ true
  pub clear : (i : ℕ) → i < t → bit i w ≡ false

bit-zero-is : (w : ℕ) → w % 2 ≡ 1 → bit 0 w ≡ true
bit-zero-is w e = bit-set 0 w (digit-zero w ∙ e)

bit-suc : (i w : ℕ) → bit (suc i) w ≡ bit i (w / 2)
unfolding bit
bit-suc i w = ap (λ (x : ℕ). eqb x 1) (digit-suc i w)

pub lowest : (k w : ℕ) → w < 2 ^ k → (w ≡ 0 → ⊥) → Lowest k w (count_trailing_zeros k w)
unfolding count_trailing_zeros
lowest zero w h n = absurd (n (omega arith))
lowest (suc k) w h n = go (w % 2) refl (λ g. lowest k (w / 2) (omega arith) g)
  where
    clear_at : (t : ℕ) → w % 2 ≡ 0 → ((i : ℕ) → i < t → bit i (w / 2) ≡ false) → (i : ℕ) → i < suc t → bit i w ≡ false
    clear_at t e f zero l = bit_clear 0 w (digit-zero w ∙ e)
    clear_at t e f (suc i) l = bit-suc i w ∙ f i (omega arith)

    go : (d : ℕ) → w % 2 ≡ d → ((w / 2 ≡ 0 → ⊥) → Lowest k (w / 2) (count_trailing_zeros k (w / 2))) → Lowest (suc k) w (under d (count_trailing_zeros k (w / 2)))
    go zero e f =
        let r : Lowest k (w / 2) (count_trailing_zeros k (w / 2)) = f (λ g. n (omega arith)) in
        record { under_k = omega (arith, r.under_k); is_set = bit-suc (count_trailing_zeros k (w / 2)) w ∙ r.is_set; clear = clear_at (count_trailing_zeros k (w / 2)) e r.clear }
    go (suc zero) e f = record { under_k = omega arith; is_set = bit-zero-is w e; clear = λ i l. absurd (omega arith) }
    go (suc (suc d)) e f = absurd (omega arith)

-- ---- bits from a place on

below_power : (w : ℕ) → w < 2 ^ w
below_power zero = omega arith
below_power (suc w) = omega (arith, below_power w, pow-suc 2 w)

-- what is left above n bits has one
pub some-beyond : (n w : ℕ) → (w / 2 ^ n ≡ 0 → ⊥) → (k : ℕ) × (n ≤ k) × (bit k w ≡ true)
some-beyond n w h =
    let r : ℕ = w / 2 ^ n in
    let l = lowest r r (below_power r) h in
    (n + count_trailing_zeros r r, omega arith, sym (bit-shr (count_trailing_zeros r r) n w) ∙ l.is_set)

pub none-beyond : (n w : ℕ) → w / 2 ^ n ≡ 0 → (k : ℕ) × (n ≤ k) × (bit k w ≡ true) → ⊥
none-beyond n w e (k, l, h) =
    let same : n + (k - n) ≡ k = omega arith in
    true≢false (sym h ∙ ap (λ (j : ℕ). bit j w) (sym same) ∙ sym (bit-shr (k - n) n w) ∙ ap (bit (k - n)) e ∙ bit-none (k - n))

-- ---- a word of 64 bits without one of its lanes

abbrev pub without : ℕ → ℕ → ℕ
without x i = bit_and x (18446744073709551615 - 1 * 2 ^ i % 2 ^ 64)

pub lane_off : (k x i : ℕ) → k < 64 → i < 64 → bit k (without x i) ≡ (bit k x && not (eqb k i))
lane_off k x i h l =
    bit-and k x (18446744073709551615 - 1 * 2 ^ i % 2 ^ 64)
    ∙ ap (λ (u : Bool). bit k x && u) (bit_not 64 k (1 * 2 ^ i % 2 ^ 64) h (omega arith) ∙ ap not (bit-shl k i l))

pub lane_gone : (x i : ℕ) → i < 64 → bit i (without x i) ≡ false
lane_gone x i h = lane_off i x i h h ∙ ap (λ (v : Bool). bit i x && not v) (eq-eqb i i refl) ∙ and-false (bit i x)

pub lane_less : (x i : ℕ) → i < 64 → bit i x ≡ true → without x i < x
lane_less x i h e = let l : without x i ≤ x = and_le_l x (18446744073709551615 - 1 * 2 ^ i % 2 ^ 64) in let n : without x i ≡ x → ⊥ = differs in omega arith
  where
    differs : without x i ≡ x → ⊥
    differs q = let y : true ≡ false = sym e ∙ ap (bit i) (sym q) ∙ lane_gone x i h in true≢false cc
