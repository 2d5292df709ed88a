-- The number with given bits.
use mathlib.Core.Path.{◌≡◌, refl, sym, ap, ap₂, ◌∙◌}
use mathlib.Core.Bool.{Bool, true, false, ◌&&◌, ◌||◌}
use Prim.Native.Nat.{ℕ, zero, suc, ◌+◌, ◌-◌, ◌*◌, ◌^◌, ◌≤◌, ◌<◌}
use native.Mathlib.Omega.{arith}
use native.Mathlib.Decide.{ℕ_discrete, dec_lt}
use native.Mathlib.Nat.{pow-suc}
use lib.Bits.{bit_or, or_lt}
use lib.Dec.{ltb}
use lib.Pow.{pow_mono}
use borrow.Author.Tests.{lt-ltb, le-ltb}
use Rattle.words.specs.Bits.{digit, bit, from_bits}
use Rattle.words.specs.Below.{one}
use Rattle.words.proofs.BitLaws.{bit-or, bit-none, bit_high, bits_ext}
use Rattle.words.proofs.CountLaws.{one_le_one}
use Rattle.words.proofs.JoinLaws.{bit-low, bit-high-part}

pub from_lt : (k : ℕ) (f : ℕ → Bool) → from_bits k f < 2 ^ k
unfolding from_bits
from_lt zero f = omega arith
from_lt (suc k) f = go (f k) (from_lt k f)
  where
    go : (b : Bool) → from_bits k f < 2 ^ k → from_bits k f + 2 ^ k * one b < 2 ^ suc k
    go true h = omega (arith, pow-suc 2 k)
    go false h = omega (arith, pow-suc 2 k)

one_bit : (b : Bool) → bit 0 (one b) ≡ b
unfolding bit digit
one_bit true = refl
one_bit false = refl

pub from-bit : (k : ℕ) (f : ℕ → Bool) (l : ℕ) → bit l (from_bits k f) ≡ (ltb l k && f l)
unfolding from_bits
from-bit zero f l = bit-none l ∙ ap (λ (t : Bool). t && f l) (sym (le-ltb l 0 (omega arith)))
from-bit (suc k) f l = go (dec_lt l k) (ℕ_discrete l k) (from-bit k f l)
  where
    go : Dec (l < k) → Dec (l ≡ k) → bit l (from_bits k f) ≡ (ltb l k && f l) → bit l (from_bits k f + 2 ^ k * one (f k)) ≡ (ltb l (suc k) && f l)
    go (yes h) e rec =
        bit-low k l (from_bits k f) (one (f k)) h (from_lt k f) ∙ rec
        ∙ ap (λ (t : Bool). t && f l) (lt-ltb l k h ∙ sym (lt-ltb l (suc k) (omega arith)))
    go (no h) (yes e) rec =
        let z : l - k ≡ 0 = omega arith in
        bit-high-part k l (from_bits k f) (one (f k)) (omega arith) (from_lt k f) ∙ ap (λ (i : ℕ). bit i (one (f k))) z ∙ one_bit (f k) ∙ ap f (sym e)
        ∙ ap (λ (t : Bool). t && f l) (sym (lt-ltb l (suc k) (omega arith)))
    go (no h) (no n) rec =
        bit-high-part k l (from_bits k f) (one (f k)) (omega arith) (from_lt k f) ∙ bit_high 1 (l - k) (one (f k)) (omega (arith, one_le_one (f k))) (omega arith)
        ∙ ap (λ (t : Bool). t && f l) (sym (le-ltb l (suc k) (omega arith)))

-- a word of n bits is known by them
pub from_word : (n k w : ℕ) (f : ℕ → Bool) → k ≤ n → w < 2 ^ n → ((l : ℕ) → l < n → bit l w ≡ (ltb l k && f l)) → w ≡ from_bits k f
from_word n k w f h g same =
    let small : 2 ^ k ≤ 2 ^ n = pow_mono h in
    bits_ext n w (from_bits k f) g (omega (arith, from_lt k f)) (λ l b. same l b ∙ sym (from-bit k f l))

-- one that has the bits of either
pub from_or : (k : ℕ) (f g h : ℕ → Bool) → ((l : ℕ) → h l ≡ (f l || g l)) → bit_or (from_bits k f) (from_bits k g) ≡ from_bits k h
from_or k f g h same =
    from_word k k (bit_or (from_bits k f) (from_bits k g)) h (omega arith) (or_lt k (from_bits k f) (from_bits k g) (from_lt k f) (from_lt k g)) bits
  where
    both : (t a b : Bool) → ((t && a) || (t && b)) ≡ (t && (a || b))
    both true a b = refl
    both false a b = refl

    bits : (l : ℕ) → l < k → bit l (bit_or (from_bits k f) (from_bits k g)) ≡ (ltb l k && h l)
    bits l b =
        bit-or l (from_bits k f) (from_bits k g) ∙ ap₂ ◌||◌ (from-bit k f l) (from-bit k g l) ∙ both (ltb l k) (f l) (g l)
        ∙ ap (λ (t : Bool). ltb l k && t) (sym (same l))
