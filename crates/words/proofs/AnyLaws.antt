-- Laws of `any_below`.
use mathlib.Core.Path.{◌≡◌, refl, sym, ap, ap₂, ◌∙◌}
use mathlib.Core.Bool.{Bool, true, false, not, ◌||◌, or_assoc, or-true, false≢true}
use Prim.Native.Nat.{ℕ, zero, suc, ◌+◌, ◌*◌, ◌^◌, ◌<◌}
use native.Mathlib.Nat.{add-suc, add-zero, suc-mul, zero-mul}
use native.Mathlib.Numerals.{add-one}
use native.Mathlib.Omega.{arith}
use native.Mathlib.Decide.{ℕ_discrete}
use lib.Dec.{eqb}
use lib.Pow.{pow_pos}
use borrow.Author.Tests.{eq-eqb, ne_eqb}
use Rattle.words.specs.Bits.{bit}
use Rattle.words.specs.Below.{any_below}
use Rattle.words.proofs.BitLaws.{bits_ext, bit-none}
use Rattle.words.proofs.Bools.{or-none, or_split}

pub any_cong : (n : ℕ) (p q : ℕ → Bool) → ((i : ℕ) → i < n → p i ≡ q i) → any_below n p ≡ any_below n q
unfolding any_below
any_cong zero p q h = refl
any_cong (suc n) p q h = ap₂ ◌||◌ (h n (omega arith)) (any_cong n p q (λ i l. h i (omega arith)))

-- one number more, as a loop has it
pub any_one : (n : ℕ) (p : ℕ → Bool) → any_below (n + 1) p ≡ (p n || any_below n p)
unfolding any_below
any_one n p = rw (add-one n)

pub any_add : (m n : ℕ) (p : ℕ → Bool) → any_below (m + n) p ≡ (any_below n (λ i. p (m + i)) || any_below m p)
unfolding any_below
any_add m zero p = rw (add-zero m)
any_add m (suc n) p = rw (add-suc m n) (ap (λ (u : Bool). p (m + n) || u) (any_add m n p) ∙ sym (or_assoc (p (m + n)) (any_below n (λ i. p (m + i))) (any_below m p)))

-- n groups of c
pub any_groups : (n c : ℕ) (p : ℕ → Bool) → any_below (n * c) p ≡ any_below n (λ j. any_below c (λ i. p (j * c + i)))
unfolding any_below
any_groups zero c p = ap (λ (k : ℕ). any_below k p) (zero-mul c)
any_groups (suc n) c p =
    ap (λ (k : ℕ). any_below k p) (suc-mul n c) ∙ any_add (n * c) c p
    ∙ ap (λ (u : Bool). any_below c (λ i. p (n * c + i)) || u) (any_groups n c p)

pub any_none : (n : ℕ) (p : ℕ → Bool) → any_below n p ≡ false → (i : ℕ) → i < n → p i ≡ false
unfolding any_below
any_none zero p e i h = absurd (omega arith)
any_none (suc n) p e i h = go (any_none n p (or-none (p n) (any_below n p) e).1 i) (ℕ_discrete i n)
  where
    go : (i < n → p i ≡ false) → Dec (i ≡ n) → p i ≡ false
    go f (yes q) = ap p q ∙ (or-none (p n) (any_below n p) e).0
    go f (no q) = f (omega arith)

pub none_any : (n : ℕ) (p : ℕ → Bool) → ((i : ℕ) → i < n → p i ≡ false) → any_below n p ≡ false
unfolding any_below
none_any zero p h = refl
none_any (suc n) p h = ap₂ ◌||◌ (h n (omega arith)) (none_any n p (λ i l. h i (omega arith)))

pub some_any : (n : ℕ) (p : ℕ → Bool) (i : ℕ) → i < n → p i ≡ true → any_below n p ≡ true
unfolding any_below
some_any zero p i h e = absurd (omega arith)
some_any (suc n) p i h e = go (λ l. some_any n p i l e) (ℕ_discrete i n)
  where
    go : (i < n → any_below n p ≡ true) → Dec (i ≡ n) → (p n || any_below n p) ≡ true
    go f (yes q) = ap (λ (u : Bool). u || any_below n p) (ap p (sym q) ∙ e)
    go f (no q) = ap (λ (u : Bool). p n || u) (f (omega arith)) ∙ or-true (p n)

-- the number that a search finds
pub any_some : (n : ℕ) (p : ℕ → Bool) → any_below n p ≡ true → (i : ℕ) × (i < n) × (p i ≡ true)
unfolding any_below
any_some zero p e = absurd (false≢true e)
any_some (suc n) p e =
    or_split (p n) (any_below n p)
    (λ q. (n, omega arith, q))
    (λ q. let (i, h, g) = any_some n p q in (i, omega arith, g))
    e

-- a word of k bits has one set just where it is not 0
pub any_word : (k w : ℕ) → w < 2 ^ k → any_below k (λ i. bit i w) ≡ not (eqb w 0)
any_word k w h = go (ℕ_discrete w 0)
  where
    both : (u : Bool) → any_below k (λ i. bit i w) ≡ u → (w ≡ 0 → ⊥) → u ≡ true
    both true e n = refl
    both false e n = absurd (n (bits_ext k w 0 h (pow_pos k) (λ i l. any_none k (λ j. bit j w) e i l ∙ sym (bit-none i))))

    go : Dec (w ≡ 0) → any_below k (λ i. bit i w) ≡ not (eqb w 0)
    go (yes e) = none_any k (λ i. bit i w) (λ i l. ap (bit i) e ∙ bit-none i) ∙ sym (ap not (eq-eqb w 0 e))
    go (no n) = both (any_below k (λ i. bit i w)) refl n ∙ sym (ap not (ne_eqb w 0 n))
