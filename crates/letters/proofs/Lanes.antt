-- A word whose parts are alike.
use mathlib.Core.Path.{◌≡◌, sym, ap, ap₂, ◌∙◌}
use Prim.Native.Nat.{ℕ, zero, suc, ◌+◌, ◌-◌, ◌*◌, ◌%◌, ◌^◌, ◌<◌, ◌≤◌}
use native.Mathlib.Nat.{mod-lt, mod-eq_of_lt, add-mod_left, mul_comm, mul_assoc, mul-add}
use native.Mathlib.Omega.{arith}
use native.Mathlib.Decide.{dec_lt}
use lib.Bits.{bit_and, and_mask}
use lib.Pow.{pow_pos, mod-mod-pow}
use Rattle.words.specs.Bits.{bit}
use Rattle.words.proofs.JoinLaws.{bit-of-low, bit-low, bit-high-part}

-- n parts of s bits, each of them x
unfoldable pub parts : ℕ → ℕ → ℕ → ℕ
parts s zero x = 0
parts s (suc n) x = x + 2 ^ s * parts s n x

parts-bit : (s n x l : ℕ) → x < 2 ^ s → l < s * n → bit l (parts s n x) ≡ bit (l % s) x
unfolding parts
parts-bit s zero x l h g = absurd (omega arith)
parts-bit s (suc n) x l h g = go (dec_lt l s) (λ k. parts-bit s n x k h)
  where
    go : Dec (l < s) → ((k : ℕ) → k < s * n → bit k (parts s n x) ≡ bit (k % s) x) → bit l (x + 2 ^ s * parts s n x) ≡ bit (l % s) x
    go (yes a) rec = bit-low s l x (parts s n x) a h ∙ ap (λ (z : ℕ). bit z x) (sym (mod-eq_of_lt a))
    go (no a) rec =
        let e : l ≡ s + (l - s) = omega arith in
        let r : l % s ≡ (l - s) % s = ap (λ (z : ℕ). z % s) e ∙ add-mod_left s (l - s) in
        bit-high-part s l x (parts s n x) (omega arith) h ∙ rec (l - s) (omega arith) ∙ ap (λ (z : ℕ). bit z x) (sym r)

-- they are a multiple of x
parts-mul : (s n x : ℕ) → parts s n x ≡ x * parts s n 1
unfolding parts
parts-mul s zero x = omega arith
parts-mul s (suc n) x =
    ap (λ (z : ℕ). x + 2 ^ s * z) (parts-mul s n x)
    ∙ ap (λ (z : ℕ). x + z) (sym (mul_assoc (2 ^ s) x (parts s n 1)) ∙ ap (λ (z : ℕ). z * parts s n 1) (mul_comm (2 ^ s) x) ∙ mul_assoc x (2 ^ s) (parts s n 1))
    ∙ omega (arith, mul-add x 1 (2 ^ s * parts s n 1))

-- the first 2^m bits of a word, by a product
pub product_bit : (m n k x : ℕ) → 64 ≤ 2 ^ m * n → parts (2 ^ m) n 1 ≡ k → (l : ℕ) → l < 64 → bit l (bit_and x (2 ^ 2 ^ m - 1) * k) ≡ bit (l % 2 ^ m) x
product_bit m n k x h e l g =
    ap (bit l) (ap₂ ◌*◌ (and_mask x (2 ^ m)) (sym e) ∙ sym (parts-mul (2 ^ m) n (x % 2 ^ 2 ^ m)))
    ∙ parts-bit (2 ^ m) n (x % 2 ^ 2 ^ m) l (mod-lt x (pow_pos (2 ^ m))) (omega arith)
    ∙ bit-of-low (2 ^ m) (l % 2 ^ m) x (mod-lt l (pow_pos m))

-- the first bits of a number's rest
pub mod_less : (m i l : ℕ) → m ≤ i → l % 2 ^ i % 2 ^ m ≡ l % 2 ^ m
mod_less m i l h = let q : i ≡ i - m + m = omega arith in ap (λ (k : ℕ). l % 2 ^ k % 2 ^ m) q ∙ mod-mod-pow l (i - m) m
