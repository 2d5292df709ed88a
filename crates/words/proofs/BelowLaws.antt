-- Numbers below a bound, as tests, and the lanes that stand for them.
use mathlib.Core.Path.{◌≡◌, sym, ap, ap₂, ◌∙◌}
use mathlib.Core.Bool.{Bool, false, ◌&&◌, ◌||◌, and-false, or-false}
use Prim.Native.Nat.{ℕ, ◌+◌, ◌-◌, ◌*◌, ◌/◌, ◌^◌, ◌≤◌, ◌<◌}
use native.Mathlib.Omega.{arith}
use native.Mathlib.Decide.{ℕ_discrete, dec_lt}
use lib.Dec.{eqb, ltb}
use lib.Pow.{pow_pos}
use borrow.Author.Tests.{eq-eqb, ne_eqb, lt-ltb, le-ltb}
use Rattle.words.specs.Bits.{bit}
use Rattle.words.proofs.BitLaws.{bit-none, bit-all, bit_high}

-- ---- tests of a bound

-- one number more
pub below_one : (x b : ℕ) → (ltb x b || eqb x b) ≡ ltb x (b + 1)
below_one x b = go (dec_lt x b) (ℕ_discrete x b)
  where
    go : Dec (x < b) → Dec (x ≡ b) → (ltb x b || eqb x b) ≡ ltb x (b + 1)
    go (yes l) d = let h : x < b + 1 = omega arith in rw (lt-ltb x b l, lt-ltb x (b + 1) h)
    go (no n) (yes e) =
        let k : b ≤ x = omega arith in
        let h : x < b + 1 = omega arith in
        rw (le-ltb x b k, eq-eqb x b e, lt-ltb x (b + 1) h)
    go (no n) (no d) =
        let k : b ≤ x = omega arith in
        let h : b + 1 ≤ x = omega arith in
        rw (le-ltb x b k, ne_eqb x b d, le-ltb x (b + 1) h)

-- the same, of one number more that passes its own test
pub below_more : (x b : ℕ) (f g : Bool) → (x ≡ b → g ≡ f) → ((ltb x b && f) || (eqb x b && g)) ≡ (ltb x (b + 1) && f)
below_more x b f g h = go (dec_lt x b) (ℕ_discrete x b)
  where
    go : Dec (x < b) → Dec (x ≡ b) → ((ltb x b && f) || (eqb x b && g)) ≡ (ltb x (b + 1) && f)
    go (yes l) d =
        ap₂ (λ (u w : Bool). (u && f) || (w && g)) (lt-ltb x b l) (ne_eqb x b (omega arith)) ∙ or-false f
        ∙ sym (ap (λ (u : Bool). u && f) (lt-ltb x (b + 1) (omega arith)))
    go (no n) (yes e) =
        ap₂ (λ (u w : Bool). (u && f) || (w && g)) (le-ltb x b (omega arith)) (eq-eqb x b e) ∙ h e
        ∙ sym (ap (λ (u : Bool). u && f) (lt-ltb x (b + 1) (omega arith)))
    go (no n) (no d) =
        ap₂ (λ (u w : Bool). (u && f) || (w && g)) (le-ltb x b (omega arith)) (ne_eqb x b d)
        ∙ sym (ap (λ (u : Bool). u && f) (le-ltb x (b + 1) (omega arith)))

-- one word more
pub words-one : (c j : ℕ) → (ltb c (64 * j) || eqb (c / 64) j) ≡ ltb c (64 * (j + 1))
words-one c j = go (dec_lt c (64 * j)) (ℕ_discrete (c / 64) j)
  where
    go : Dec (c < 64 * j) → Dec (c / 64 ≡ j) → (ltb c (64 * j) || eqb (c / 64) j) ≡ ltb c (64 * (j + 1))
    go (yes l) d = let h : c < 64 * (j + 1) = omega arith in rw (lt-ltb c (64 * j) l, lt-ltb c (64 * (j + 1)) h)
    go (no n) (yes e) =
        let k : 64 * j ≤ c = omega arith in
        let h : c < 64 * (j + 1) = omega arith in
        rw (le-ltb c (64 * j) k, eq-eqb (c / 64) j e, lt-ltb c (64 * (j + 1)) h)
    go (no n) (no d) =
        let k : 64 * j ≤ c = omega arith in
        let h : 64 * (j + 1) ≤ c = omega arith in
        rw (le-ltb c (64 * j) k, ne_eqb (c / 64) j d, le-ltb c (64 * (j + 1)) h)

pub below_none : (x : ℕ) (f : Bool) → (ltb x 0 && f) ≡ false
below_none x f = ap (λ (u : Bool). u && f) (le-ltb x 0 (omega arith))

-- a wider bound, where the other test is
pub below-within : (x v w : ℕ) → v ≤ w → (ltb x w && ltb x v) ≡ ltb x v
below-within x v w h = go (dec_lt x v)
  where
    go : Dec (x < v) → (ltb x w && ltb x v) ≡ ltb x v
    go (yes l) = let k : x < w = omega arith in rw (lt-ltb x w k)
    go (no n) = let k : v ≤ x = omega arith in rw (le-ltb x v k) (and-false (ltb x w))

-- nothing between two bounds passes the test
pub below_wider : (x b b' : ℕ) (f : Bool) → b ≤ b' → (b ≤ x → x < b' → f ≡ false) → (ltb x b && f) ≡ (ltb x b' && f)
below_wider x b b' f l h = go (dec_lt x b) (dec_lt x b')
  where
    go : Dec (x < b) → Dec (x < b') → (ltb x b && f) ≡ (ltb x b' && f)
    go (yes d) e = ap (λ (u : Bool). u && f) (lt-ltb x b d ∙ sym (lt-ltb x b' (omega arith)))
    go (no d) (yes e) = ap (λ (u : Bool). u && f) (le-ltb x b (omega arith)) ∙ sym (ap (λ (u : Bool). u && f) (lt-ltb x b' e) ∙ h (omega arith) e)
    go (no d) (no e) = ap (λ (u : Bool). u && f) (le-ltb x b (omega arith) ∙ sym (le-ltb x b' (omega arith)))

-- ---- lanes

pub lanes-none : (i v j : ℕ) → v ≤ 64 * j → bit i 0 ≡ ltb (64 * j + i) v
lanes-none i v j h = bit-none i ∙ sym (le-ltb (64 * j + i) v (omega arith))

pub lanes_all : (i v j : ℕ) → i < 64 → 64 * j + 64 ≤ v → bit i (2 ^ 64 - 1) ≡ ltb (64 * j + i) v
lanes_all i v j l h = bit-all 64 i l ∙ sym (lt-ltb (64 * j + i) v (omega arith))

pub lanes-some : (i v j : ℕ) → 64 * j < v → bit i (2 ^ (v - 64 * j) - 1) ≡ ltb (64 * j + i) v
lanes-some i v j h = go (dec_lt i (v - 64 * j))
  where
    go : Dec (i < v - 64 * j) → bit i (2 ^ (v - 64 * j) - 1) ≡ ltb (64 * j + i) v
    go (yes l) = bit-all (v - 64 * j) i l ∙ sym (lt-ltb (64 * j + i) v (omega arith))
    go (no n) =
        bit_high (v - 64 * j) i (2 ^ (v - 64 * j) - 1) (let p : 0 < 2 ^ (v - 64 * j) = pow_pos (v - 64 * j) in omega arith) (omega arith)
        ∙ sym (le-ltb (64 * j + i) v (omega arith))
