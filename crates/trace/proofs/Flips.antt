-- One bit of a byte turned over.
use mir.Val.{bool_byte}
use mathlib.Core.Path.{◌≡◌, refl, sym, ap, ap₂, ◌∙◌}
use mathlib.Core.Bool.{Bool, true, false, not, beq, true≢false}
use mathlib.Core.List.{List}
use Prim.Native.Nat.{ℕ, zero, suc, ◌+◌, ◌*◌, ◌/◌, ◌%◌, ◌^◌, ◌<◌}
use native.Mathlib.Omega.{arith}
use lib.Bits.{bit_xor, differ, xor_shr, xor_step, xor_lt, xor_zero_r}
use lib.Dec.{eqb}
use lib.ListN.{length, get_or, set, length-set}
use lib.Seq.{get_or-set_same, get_or-set_other, set-get_or}
use lib.Pow.{pow-lt}
use borrow.Author.Tests.{eq-eqb, ne_eqb}
use Rattle.words.specs.Bits.{digit, bit}
use Rattle.words.specs.Below.{one}
use Rattle.words.proofs.BitLaws.{digit-of, one_shl, bit-shl}
use Rattle.trace.specs.Passes.{BitPut}

digit-xor : (i x y : ℕ) → digit i (bit_xor x y) ≡ differ (digit i x) (digit i y)
unfolding digit
digit-xor i x y =
    ap (λ (z : ℕ). z % 2) (xor_shr x y i) ∙ ap (λ (z : ℕ). z % 2) (xor_step (x / 2 ^ i) (y / 2 ^ i)) ∙ low (x / 2 ^ i % 2) (y / 2 ^ i % 2) (omega arith) (omega arith) (bit_xor (x / 2 ^ i / 2) (y / 2 ^ i / 2))
  where
    low : (a b : ℕ) → a < 2 → b < 2 → (n : ℕ) → (n * 2 + differ a b) % 2 ≡ differ a b
    low zero zero h k n = omega arith
    low zero (suc zero) h k n = omega arith
    low (suc zero) zero h k n = omega arith
    low (suc zero) (suc zero) h k n = omega arith
    low zero (suc (suc b)) h k n = absurd (omega arith)
    low (suc zero) (suc (suc b)) h k n = absurd (omega arith)
    low (suc (suc a)) b h k n = absurd (omega arith)

abbrev other : Bool → Bool → Bool
other true b = not b
other false b = b

bit-xor : (i x y : ℕ) → bit i (bit_xor x y) ≡ other (bit i y) (bit i x)
unfolding bit
bit-xor i x y =
    ap (λ (z : ℕ). eqb z 1) (digit-xor i x y ∙ ap₂ differ (digit-of i x) (digit-of i y)) ∙ go (bit i x) (bit i y)
  where
    go : (u v : Bool) → eqb (differ (one u) (one v)) 1 ≡ other v u
    go true true = refl
    go true false = refl
    go false true = refl
    go false false = refl

-- `1 << s` of a byte
mask : (s : ℕ) → s < 8 → 1 * 2 ^ s % 2 ^ 8 ≡ 2 ^ s
mask s h = let g : 2 ^ s < 2 ^ 8 = pow-lt h in omega arith

pub bit_mask : (i s : ℕ) → s < 8 → bit i (1 * 2 ^ s % 2 ^ 8) ≡ eqb i s
bit_mask i s h = ap (bit i) (mask s h ∙ sym (one_shl s (omega arith))) ∙ bit-shl i s (omega arith)

bit_flipped : (s x : ℕ) → s < 8 → bit s (bit_xor x (1 * 2 ^ s % 2 ^ 8)) ≡ not (bit s x)
bit_flipped s x h = bit-xor s x (1 * 2 ^ s % 2 ^ 8) ∙ ap (λ (b : Bool). other b (bit s x)) (bit_mask s s h ∙ eq-eqb s s refl)

bit_kept : (k s x : ℕ) → s < 8 → (k ≡ s → ⊥) → bit k (bit_xor x (1 * 2 ^ s % 2 ^ 8)) ≡ bit k x
bit_kept k s x h n = bit-xor k x (1 * 2 ^ s % 2 ^ 8) ∙ ap (λ (b : Bool). other b (bit k x)) (bit_mask k s h ∙ ne_eqb k s n)

flip_lt : (n s x : ℕ) → s < 8 → s < n → x < 2 ^ n → bit_xor x (1 * 2 ^ s % 2 ^ 8) < 2 ^ n
flip_lt n s x h l b = let g : 2 ^ s < 2 ^ n = pow-lt l in xor_lt n x (1 * 2 ^ s % 2 ^ 8) b (omega (arith, mask s h))

module _ (i s : ℕ) (v : Bool) (old : List ℕ) where
  -- the bit has its value already
  put-nothing : bit s (get_or old i 0) ≡ v → BitPut i s v old old false
  put-nothing e =
      record { same_length = refl; others = λ j h. refl; put = e; kept = λ k h. refl; below = λ n h b. b; same = λ h. refl }

  put-flip : i < length old → s < 8 → not (bit s (get_or old i 0)) ≡ v → BitPut i s v old (set old i (bit_xor (get_or old i 0) (1 * 2 ^ s % 2 ^ 8))) true
  put-flip l h e =
      record {
        same_length = length-set old i _;
        others = λ j n. get_or-set_other old i j _ 0 n;
        put = ap (bit s) here ∙ bit_flipped s (get_or old i 0) h ∙ e;
        kept = λ k n. ap (bit k) here ∙ bit_kept k s (get_or old i 0) h n;
        below = λ n k b. rw here (flip_lt n s (get_or old i 0) h k b);
        same = λ c. absurd (true≢false cc);
      }
    where
      here : get_or (set old i (bit_xor (get_or old i 0) (1 * 2 ^ s % 2 ^ 8))) i 0 ≡ bit_xor (get_or old i 0) (1 * 2 ^ s % 2 ^ 8)
      here = get_or-set_same old i _ 0 l

  -- the bit is turned over where it differs
  pub put_byte : i < length old → s < 8 → (was : Bool) → was ≡ bit s (get_or old i 0)
      → BitPut i s v old (set old i (bit_xor (get_or old i 0) (bool_byte (not (beq was v)) * 2 ^ s % 2 ^ 8))) (not (beq was v))
  put_byte l h was e = go was v e refl
    where
      same : set old i (bit_xor (get_or old i 0) (0 * 2 ^ s % 2 ^ 8)) ≡ old
      same =
          let none : 0 * 2 ^ s % 2 ^ 8 ≡ 0 = omega arith in
          ap (λ (z : ℕ). set old i (bit_xor (get_or old i 0) z)) none ∙ ap (set old i) (xor_zero_r (get_or old i 0)) ∙ set-get_or old i 0

      go : (was w : Bool) → was ≡ bit s (get_or old i 0) → w ≡ v
          → BitPut i s v old (set old i (bit_xor (get_or old i 0) (bool_byte (not (beq was w)) * 2 ^ s % 2 ^ 8))) (not (beq was w))
      go true true e g = rw same (put-nothing (sym e ∙ g))
      go false false e g = rw same (put-nothing (sym e ∙ g))
      go true false e g = put-flip l h (ap not (sym e) ∙ g)
      go false true e g = put-flip l h (ap not (sym e) ∙ g)
