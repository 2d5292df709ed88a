-- A letter matches the masks input by input exactly if its known bits are the value.
use mathlib.Core.Path.{◌≡◌, refl, sym, ap, ap₂, ◌∙◌}
use mathlib.Core.Bool.{Bool, true, false, cond, not, ◌&&◌, beq, and-true, and-false}
use Prim.Native.Nat.{ℕ, zero, suc, ◌+◌, ◌<◌, ◌≤◌, ◌^◌}
use native.Mathlib.Omega.{arith}
use native.Mathlib.Numerals.{add-one}
use native.Mathlib.Decide.{ℕ_discrete}
use lib.Bits.{bit_and, and_le_r}
use lib.Dec.{eqb, leb}
use lib.Pow.{pow_mono}
use borrow.Author.Tests.{eq-eqb, ne_eqb, eqb-true, leb-false, not-false}
use Rattle.words.specs.Bits.{bit}
use Rattle.words.proofs.BitLaws.{bit-and, bits_ext}
use Rattle.words.proofs.Bools.{and_split, or-none, beq_eq, beq_refl}
use Rattle.completions.specs.Completion.{masked}
use Rattle.letters.specs.Masks.{bad_masks}
use Rattle.letters.specs.Matching.{agrees, matches}

pub matches-more : (known val i l : ℕ) → matches known val (i + 1) l ≡ (matches known val i l && agrees known val i l)
unfolding matches
matches-more known val i l = rw (add-one i)

-- what is masked out is no value bit
pub record Valid (known val : ℕ) : Type 0 where
  pub small : known < 64
  pub inside : bit_and val known ≡ val

matches-at : (known val n l : ℕ) → matches known val n l ≡ true → (i : ℕ) → i < n → agrees known val i l ≡ true
unfolding matches
matches-at known val zero l e i h = absurd (omega arith)
matches-at known val (suc n) l e i h = go (ℕ_discrete i n) (matches-at known val n l (and_split (matches known val n l) (agrees known val n l) e).0 i)
  where
    go : Dec (i ≡ n) → (i < n → agrees known val i l ≡ true) → agrees known val i l ≡ true
    go (yes q) rec = ap (λ (z : ℕ). agrees known val z l) q ∙ (and_split (matches known val n l) (agrees known val n l) e).1
    go (no q) rec = rec (omega arith)

matches-of : (known val n l : ℕ) → ((i : ℕ) → i < n → agrees known val i l ≡ true) → matches known val n l ≡ true
unfolding matches
matches-of known val zero l f = refl
matches-of known val (suc n) l f = ap₂ ◌&&◌ (matches-of known val n l (λ i h. f i (omega arith))) (f n (omega arith))

module _ (known val l : ℕ) (ok : Valid known val) where
  abbrev both : ℕ → Bool
  both i = bit i l && bit i known

  -- the two sides of a bit
  bit-agrees : (i : ℕ) → bit i val ≡ both i → agrees known val i l ≡ true
  bit-agrees i e = go (bit i known) refl
    where
      go : (k : Bool) → bit i known ≡ k → cond k (beq (bit i l) (bit i val)) true ≡ true
      go true q = rw (e, q, and-true (bit i l)) (beq_refl (bit i l))
      go false q = refl

  agrees-bit : (i : ℕ) → agrees known val i l ≡ true → bit i (bit_and l known) ≡ bit i val
  agrees-bit i e = bit-and i l known ∙ go (bit i known) refl
    where
      inside : bit i val ≡ (bit i val && bit i known)
      inside = ap (bit i) (sym ok.inside) ∙ bit-and i val known

      go : (k : Bool) → bit i known ≡ k → (bit i l && bit i known) ≡ bit i val
      go true q = rw (q, and-true (bit i l)) (beq_eq (bit i l) (bit i val) (rw q at e))
      go false q = rw (q, and-false (bit i l)) (sym (inside ∙ ap (λ (z : Bool). bit i val && z) q ∙ and-false (bit i val)))

  and-small : bit_and l known < 2 ^ 6
  and-small = omega (arith, and_le_r l known, ok.small)

  val-small : val < 2 ^ 6
  val-small = rw (← ok.inside) (omega (arith, and_le_r val known, ok.small))

  -- the letters that match are those whose known bits are the value
  pub matches-masked : matches known val 6 l ≡ masked known val l
  unfolding masked
  matches-masked = go (ℕ_discrete (bit_and l known) val)
    where
      differs : (b : Bool) → matches known val 6 l ≡ b → (bit_and l known ≡ val → ⊥) → b ≡ false
      differs true e n = absurd (n (bits_ext 6 (bit_and l known) val and-small val-small (λ i h. agrees-bit i (matches-at known val 6 l e i h))))
      differs false e n = refl

      go : Dec (bit_and l known ≡ val) → matches known val 6 l ≡ eqb (bit_and l known) val
      go (yes e) = matches-of known val 6 l (λ i h. bit-agrees i (ap (bit i) (sym e) ∙ bit-and i l known)) ∙ sym (eq-eqb (bit_and l known) val e)
      go (no n) = differs (matches known val 6 l) refl n ∙ sym (ne_eqb (bit_and l known) val n)

-- masks that rule 11 lets pass
pub known_small : (m known val : ℕ) → bad_masks m known val ≡ false → known < 2 ^ m
unfolding bad_masks
known_small m known val e = leb-false (2 ^ m) known (or-none (leb (2 ^ m) known) (not (eqb (bit_and val known) val)) e).0

pub valid : (m known val : ℕ) → m ≤ 6 → bad_masks m known val ≡ false → Valid known val
unfolding bad_masks
valid m known val h e =
    let a : known < 2 ^ m = known_small m known val e in
    let g : 2 ^ m ≤ 2 ^ 6 = pow_mono h in
    record {
      small = omega arith;
      inside = eqb-true (bit_and val known) val (not-false (eqb (bit_and val known) val) (or-none (leb (2 ^ m) known) (not (eqb (bit_and val known) val)) e).1);
    }
