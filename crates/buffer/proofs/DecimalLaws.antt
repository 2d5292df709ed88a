-- Laws of numbers in decimal: the last digit, and how many digits there are.
use mathlib.Core.Path.{◌≡◌, refl, ap, ◌∙◌}
use mathlib.Core.List.{[], ◌∷◌, ◌++◌}
use mathlib.Core.Bool.{Bool, true, false}
use Prim.Native.Nat.{ℕ, zero, suc, ◌+◌, ◌-◌, ◌/◌, ◌%◌, ◌^◌, ◌<◌, ◌≤◌}
use native.Mathlib.Nat.{pow-suc, div-lt_iff_lt-mul, zero-lt-suc}
use native.Mathlib.Omega.{arith}
use lib.Dec.{ltb}
use lib.ListN.{length, length-append}
use borrow.Author.Tests.{lt-ltb, le-ltb, ltb-false}
use Rattle.buffer.specs.Decimal.{decimal_of, decimal}

-- without its last digit a number has one digit fewer
digit_down : (k n : ℕ) → 10 ≤ n → n < 10 ^ suc k → (0 < k) × (n / 10 < 10 ^ k)
digit_down zero n l h = absurd (omega arith)
digit_down (suc k) n l h = (omega arith, (div-lt_iff_lt-mul (zero-lt-suc 9)).1 (rw pow-suc at h))

pub decimal-small : (n : ℕ) → n < 10 → decimal n ≡ (48 + n) ∷ []
unfolding decimal_of
decimal-small n l = simp (lt-ltb n 10 l)

-- more digits are not used
decimal-more : (k n : ℕ) → 0 < k → n < 10 ^ k → decimal_of (suc k) n ≡ decimal_of k n
unfolding decimal_of
decimal-more zero n p h = absurd (omega arith)
decimal-more (suc k) n p h = go (ltb n 10) refl (decimal-more k (n / 10))
  where
    go : (t : Bool) → ltb n 10 ≡ t → (0 < k → n / 10 < 10 ^ k → decimal_of (suc k) (n / 10) ≡ decimal_of k (n / 10)) → decimal_of (suc (suc k)) n ≡ decimal_of (suc k) n
    go true e f = simp e
    go false e f = let d = digit_down k n (ltb-false n 10 e) h in simp (e, f d.0 d.1)

pub decimal_large : (n : ℕ) → 10 ≤ n → n < 10 ^ 20 → decimal n ≡ decimal (n / 10) ++ ((48 + n % 10) ∷ [])
unfolding decimal_of
decimal_large n l h = rw (le-ltb n 10 l, decimal-more 19 (n / 10) (omega arith) (digit_down 19 n l h).1)

pub decimal_large_length : (n : ℕ) → 10 ≤ n → n < 10 ^ 20 → length (decimal n) ≡ length (decimal (n / 10)) + 1
decimal_large_length n l h = ap length (decimal_large n l h) ∙ length-append (decimal (n / 10)) ((48 + n % 10) ∷ [])

decimal-length-of : (m k n : ℕ) → n < 10 ^ suc k → length (decimal_of m n) ≤ suc k
unfolding decimal_of
decimal-length-of zero k n h = omega arith
decimal-length-of (suc m) k n h = go (ltb n 10) refl (decimal-length-of m (k - 1) (n / 10))
  where
    go : (t : Bool) → ltb n 10 ≡ t → (n / 10 < 10 ^ suc (k - 1) → length (decimal_of m (n / 10)) ≤ suc (k - 1)) → length (decimal_of (suc m) n) ≤ suc k
    go true e f = rw e (omega arith)
    go false e f =
        let d = digit_down k n (ltb-false n 10 e) h in
        let p : suc (k - 1) ≡ k = omega (arith, d.0) in
        rw (e, length-append) (omega (arith, rw p at (f (rw p d.1))))

-- a number below 10 ^ k has at most k digits
pub decimal-length : (k n : ℕ) → 0 < k → n < 10 ^ k → length (decimal n) ≤ k
decimal-length zero n p h = absurd (omega arith)
decimal-length (suc k) n p h = decimal-length-of 20 k n h

-- a number of 64 bits has at most 20
pub word_digits : (n : ℕ) → n < 2 ^ 64 → length (decimal n) ≤ 20
word_digits n h = decimal-length 20 n (omega arith) (omega arith)

-- and one of 32 bits at most 10
pub half_word_digits : (n : ℕ) → n < 2 ^ 32 → length (decimal n) ≤ 10
half_word_digits n h = decimal-length 10 n (omega arith) (omega arith)
