-- Two numbers side by side: l in the low m bits, o above them.
use mathlib.Core.Path.{◌≡◌, sym, ap, ◌∙◌}
use Prim.Native.Nat.{ℕ, zero, suc, ◌+◌, ◌-◌, ◌*◌, ◌/◌, ◌%◌, ◌^◌, ◌≤◌, ◌<◌}
use native.Mathlib.Nat.{div-eq_of_lt, mod-lt, mod-eq_of_lt, div-add-mod, add-mul-div_left, add-mul-mod_self_left, mul-le-mul_left, mul_comm, mul_assoc, pow-suc}
use native.Mathlib.Omega.{arith}
use lib.Dec.{eqb}
use lib.Pow.{pow_pos, pow-add}
use Rattle.words.specs.Bits.{digit, bit}
use Rattle.words.proofs.BitLaws.{digit-zero, digit-suc, bit-shr}

double : (m o : ℕ) → 2 ^ suc m * o ≡ 2 * (2 ^ m * o)
double m o = ap (λ (z : ℕ). z * o) (pow-suc 2 m ∙ mul_comm (2 ^ m) 2) ∙ mul_assoc 2 (2 ^ m) o

digit_low : (m q l o : ℕ) → q < m → l < 2 ^ m → digit q (l + 2 ^ m * o) ≡ digit q l
digit_low zero q l o h b = absurd (omega arith)
digit_low (suc m) zero l o h b =
    let e : 2 ^ suc m * o ≡ 2 * (2 ^ m * o) = double m o in
    digit-zero (l + 2 ^ suc m * o) ∙ omega (arith, e) ∙ sym (digit-zero l)
digit_low (suc m) (suc q) l o h b =
    let e : 2 ^ suc m * o ≡ 2 * (2 ^ m * o) = double m o in
    let half : (l + 2 ^ suc m * o) / 2 ≡ l / 2 + 2 ^ m * o = omega (arith, e) in
    digit-suc q (l + 2 ^ suc m * o) ∙ ap (digit q) half ∙ digit_low m q (l / 2) o (omega arith) (omega arith) ∙ sym (digit-suc q l)

pub bit-low : (m q l o : ℕ) → q < m → l < 2 ^ m → bit q (l + 2 ^ m * o) ≡ bit q l
unfolding bit
bit-low m q l o h b = ap (λ (d : ℕ). eqb d 1) (digit_low m q l o h b)

join_div : (m l o : ℕ) → l < 2 ^ m → (l + 2 ^ m * o) / 2 ^ m ≡ o
join_div m l o b = add-mul-div_left l o (pow_pos m) ∙ ap (λ (z : ℕ). z + o) (div-eq_of_lt b) ∙ omega arith

pub join_mod : (m l o : ℕ) → l < 2 ^ m → (l + 2 ^ m * o) % 2 ^ m ≡ l
join_mod m l o b = add-mul-mod_self_left l (2 ^ m) o ∙ mod-eq_of_lt b

pub bit-above : (m k l o : ℕ) → l < 2 ^ m → bit (m + k) (l + 2 ^ m * o) ≡ bit k o
bit-above m k l o b = sym (bit-shr k m (l + 2 ^ m * o)) ∙ ap (bit k) (join_div m l o b)

pub bit-high-part : (m q l o : ℕ) → m ≤ q → l < 2 ^ m → bit q (l + 2 ^ m * o) ≡ bit (q - m) o
bit-high-part m q l o h b =
    let e : q ≡ m + (q - m) = omega arith in
    ap (λ (z : ℕ). bit z (l + 2 ^ m * o)) e ∙ bit-above m (q - m) l o b

-- every number is joined from its parts
join_parts : (m v : ℕ) → v % 2 ^ m + 2 ^ m * (v / 2 ^ m) ≡ v
join_parts m v = omega (arith, div-add-mod v (2 ^ m))

low_lt : (m v : ℕ) → v % 2 ^ m < 2 ^ m
low_lt m v = mod-lt v (pow_pos m)

pub join_lt : (m n l o : ℕ) → l < 2 ^ m → o < 2 ^ n → l + 2 ^ m * o < 2 ^ (m + n)
join_lt m n l o b c =
    let d : suc o ≤ 2 ^ n = c in
    let e : 2 ^ (m + n) ≡ 2 ^ m * 2 ^ n = pow-add 2 m n in
    omega (arith, mul-le-mul_left (2 ^ m) d)

-- a bit below m is one of the low part, and a bit from m on one of the high part
pub bit-of-low : (m q v : ℕ) → q < m → bit q (v % 2 ^ m) ≡ bit q v
bit-of-low m q v h =
    sym (bit-low m q (v % 2 ^ m) (v / 2 ^ m) h (low_lt m v)) ∙ ap (bit q) (join_parts m v)
