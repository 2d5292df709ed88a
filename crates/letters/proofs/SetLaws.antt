-- Rule 21, and the sets that masks stand for.
use mathlib.Core.Path.{◌≡◌, refl, sym, ap, ◌∙◌}
use mathlib.Core.Bool.{Bool, true, false, not, ◌&&◌, true≢false, false≢true}
use mathlib.Core.Logic.{inl, inr}
use Prim.Native.Nat.{ℕ, ◌/◌, ◌^◌, ◌≤◌, ◌<◌}
use native.Mathlib.Omega.{arith}
use native.Mathlib.Decide.{dec_lt}
use native.Mathlib.Nat.{div-eq_of_lt, le-div_iff_mul-le}
use lib.Bits.{bit_and, and_le_r}
use lib.Dec.{eqb, leb, ltb}
use lib.Pow.{pow_pos, pow_mono}
use borrow.Author.Tests.{eq-eqb, ne_eqb, le-leb, lt-leb, leb-false, lt-ltb, ltb-true, not-false, eqb-true}
use Rattle.outcomes.specs.Decided.{Decided}
use Rattle.outcomes.specs.declared.Refusal.TheVariants.{Counts, Letter}
use Rattle.std.specs.Prelude.{Err}
use Rattle.outcomes.specs.Outcome.{unbroken}
use Rattle.words.specs.Bits.{bit}
use Rattle.words.proofs.BitLaws.{bit-none, bits_ext}
use Rattle.words.proofs.Bools.{or-none}
use Rattle.words.proofs.FromBits.{from_lt, from_word}
use Rattle.completions.specs.Completion.{masked}
use Rattle.letters.specs.Masks.{bad_masks}
use Rattle.letters.specs.Matching.{matches}
use Rattle.letters.specs.Sets.{bad_set, MaskSet, mask_checks}
use Rattle.letters.proofs.Matching.{valid, matches-masked}

-- ---- rule 21

pub bad_empty : (m w : ℕ) → w ≡ 0 → true ≡ bad_set m w
unfolding bad_set
bad_empty m w e = rw e refl

pub bad_within : (m w : ℕ) → (w ≡ 0 → ⊥) → w < 2 ^ (2 ^ m) → bad_set m w ≡ false
unfolding bad_set
bad_within m w n h = rw (ne_eqb w 0 n) (lt-leb (2 ^ (2 ^ m)) w h)

-- a letter lies beyond exactly if a shift by 2^m leaves something
pub bad_shift : (m w : ℕ) → (w ≡ 0 → ⊥) → not (eqb (w / 2 ^ (2 ^ m)) 0) ≡ bad_set m w
unfolding bad_set
bad_shift m w n = rw (ne_eqb w 0 n) (go (dec_lt w (2 ^ (2 ^ m))))
  where
    go : Dec (w < 2 ^ (2 ^ m)) → not (eqb (w / 2 ^ (2 ^ m)) 0) ≡ leb (2 ^ (2 ^ m)) w
    go (yes h) = rw (lt-leb (2 ^ (2 ^ m)) w h) (ap not (eq-eqb (w / 2 ^ (2 ^ m)) 0 (div-eq_of_lt h)))
    go (no h) =
        let some : 1 ≤ w / 2 ^ (2 ^ m) = (le-div_iff_mul-le (pow_pos (2 ^ m))).1 (omega arith) in
        rw (le-leb (2 ^ (2 ^ m)) w (omega arith)) (ap not (ne_eqb (w / 2 ^ (2 ^ m)) 0 (λ e. omega arith)))

-- ---- masks

module _ (m known val : ℕ) where
  -- the checks, by their tests
  pub no-inputs : m ≡ 0 → Decided (mask_checks m known val) (Err Counts)
  no-inputs e = inl (rw e refl, refl)

  pub many-inputs : (m ≡ 0 → ⊥) → ltb 6 m ≡ true → Decided (mask_checks m known val) (Err Counts)
  many-inputs n e = inl (rw (le-leb 1 m (omega arith), lt-leb m 6 (ltb-true 6 m e)) refl, refl)

  few : 1 ≤ m → m ≤ 6 → not (leb 1 m && leb m 6) ≡ true → ⊥
  few n h e = false≢true (rw (le-leb 1 m n, le-leb m 6 h) at e)

  pub masks-refused : 1 ≤ m → m ≤ 6 → bad_masks m known val ≡ true → Decided (mask_checks m known val) (Err Letter)
  masks-refused n h e = inr (few n h, inl (e, refl))

  pub masks-taken : 1 ≤ m → m ≤ 6 → bad_masks m known val ≡ false → Decided (mask_checks m known val) unbroken
  masks-taken n h e = inr (few n h, inr ((λ b. false≢true (sym e ∙ b)), refl))

  -- the letters that match, as a word, are the set of the masks
  pub mask-set : (w : ℕ) → m ≤ 6 → bad_masks m known val ≡ false → w < 2 ^ 64
      → ((l : ℕ) → l < 64 → bit l w ≡ (ltb l (2 ^ m) && matches known val 6 l)) → MaskSet m known val w
  mask-set w h e g f =
      let fit : 2 ^ m ≤ 2 ^ 6 = pow_mono h in
      record {
        small = rw (from_word 64 (2 ^ m) w (matches known val 6) fit g f) (from_lt (2 ^ m) (matches known val 6));
        letters = λ l b.
            f l (omega arith) ∙ ap (λ (t : Bool). t && matches known val 6 l) (lt-ltb l (2 ^ m) b) ∙ matches-masked known val l (valid m known val h e);
      }

  -- the value is one of them, so that rule 21 lets the set pass
  pub mask-set-good : (w : ℕ) → bad_masks m known val ≡ false → MaskSet m known val w → bad_set m w ≡ false
  unfolding bad_masks masked
  mask-set-good w e s =
      let parts = or-none (leb (2 ^ m) known) (not (eqb (bit_and val known) val)) e in
      let inside : bit_and val known ≡ val = eqb-true (bit_and val known) val (not-false (eqb (bit_and val known) val) parts.1) in
      let low : val < 2 ^ m = rw (← inside) (omega (arith, and_le_r val known, leb-false (2 ^ m) known parts.0)) in
      bad_within m w (λ z. true≢false (sym (s.letters val low ∙ eq-eqb (bit_and val known) val inside) ∙ ap (bit val) z ∙ bit-none val)) s.small

  -- and there is no other such set
  pub one_set : (w u : ℕ) → MaskSet m known val w → MaskSet m known val u → w ≡ u
  one_set w u s t = bits_ext (2 ^ m) w u s.small t.small (λ l h. s.letters l h ∙ sym (t.letters l h))
