-- One expression byte on a stack of rows, by the branches of the code.
use mathlib.Core.Path.{◌≡◌, refl, sym, ap, ◌∙◌}
use mathlib.Core.Bool.{Bool, not, ◌&&◌, ◌||◌, beq}
use mathlib.Core.List.{List, ◌∷◌}
use Prim.Native.Nat.{ℕ, ◌+◌, ◌-◌, ◌*◌, ◌%◌, ◌≤◌, ◌<◌}
use native.Mathlib.Omega.{arith}
use lib.Bits.{bit_and, bit_or}
use lib.Dec.{eqb}
use lib.ListN.{get_or}
use Rattle.words.specs.Bits.{bit}
use Rattle.words.proofs.BitLaws.{bit-and, bit-or}
use Rattle.lanes.specs.Machine.{and_top, or_top, equal_top, stepped}
use Rattle.lanes.specs.Around.{read_at, lane_stack, Stepped, Filled, Stored}
use Rattle.lanes.proofs.RowLaws.{inside, under, word-under}
use Rattle.lanes.proofs.StackLaws.{byte-and, byte_or, byte-equal, lane-read, lane-const, lane_not, lane-two, lane_lacks}

module _ (w env own e : ℕ) (st top : List ℕ) (used : ℕ) (st' top' : List ℕ) where
  pub step-read : Stored w used top st st' → 64 ≤ e → ((j i : ℕ) → j < w → i < 64 → bit i (get_or top' j 0) ≡ read_at env own (64 * j + i) (e % 64))
      → Stepped w env own e st top used st' top' (used + 1)
  step-read s l r = record {
    grows = omega arith;
    lanes = λ j i h g.
        lane-read (read_at env own (64 * j + i)) e (bit i (get_or top j 0)) (λ k. bit i (get_or st (w * k + j) 0)) used (bit i (get_or top' j 0))
        (λ k. bit i (get_or st' (w * k + j) 0)) l (r j i h g) (ap (bit i) (s.words j h)) (λ k m. ap (bit i) (s.others (w * k + j) (inside w k used j m h)));
  }

  pub step-const : Stored w used top st st' → e < 2 → (x : ℕ) → ((i : ℕ) → i < 64 → bit i x ≡ eqb e 1) → Filled w (λ j. x) top'
      → Stepped w env own e st top used st' top' (used + 1)
  step-const s l x r z = record {
    grows = omega arith;
    lanes = λ j i h g.
        lane-const (read_at env own (64 * j + i)) e (bit i (get_or top j 0)) (λ k. bit i (get_or st (w * k + j) 0)) used (bit i (get_or top' j 0))
        (λ k. bit i (get_or st' (w * k + j) 0)) l (ap (bit i) (z j h) ∙ r i g) (ap (bit i) (s.words j h))
        (λ k m. ap (bit i) (s.others (w * k + j) (inside w k used j m h)));
  }

module _ (w env own e : ℕ) (st top : List ℕ) (used : ℕ) (top' : List ℕ) where
  pub step-not : e ≡ 2 → ((j i : ℕ) → j < w → i < 64 → bit i (get_or top' j 0) ≡ not (bit i (get_or top j 0))) → Stepped w env own e st top used st top' used
  step-not q r = record {
    grows = omega arith;
    lanes = λ j i h g.
        lane_not (read_at env own (64 * j + i)) e (bit i (get_or top j 0)) (λ k. bit i (get_or st (w * k + j) 0)) used (bit i (get_or top' j 0))
        (λ k. bit i (get_or st (w * k + j) 0)) q (r j i h g) (λ k m. refl);
  }

  -- an operator on two values
  step-two : (op : Bool → Bool → Bool) → ((f : ℕ → Bool) (x v : Bool) (s : List Bool) → op v x ∷ s ≡ stepped f e (x ∷ (v ∷ s))) → (used ≡ 0 → ⊥)
      → ((j i : ℕ) → j < w → i < 64 → bit i (get_or top' j 0) ≡ op (bit i (get_or (under w used st) j 0)) (bit i (get_or top j 0)))
      → Stepped w env own e st top used st top' (used - 1)
  step-two op does n r = record {
    grows = omega arith;
    lanes = λ j i h g.
        lane-two (read_at env own (64 * j + i)) e (bit i (get_or top j 0)) (λ k. bit i (get_or st (w * k + j) 0)) (bit i (get_or top' j 0))
        (λ k. bit i (get_or st (w * k + j) 0)) op (does (read_at env own (64 * j + i)) (bit i (get_or top j 0))) used (omega arith)
        (r j i h g ∙ ap (λ (z : ℕ). op (bit i z) (bit i (get_or top j 0))) (word-under w used st n j h)) (λ k m. refl);
  }

  pub step-and : (used ≡ 0 → ⊥) → e ≡ 3 → ((j : ℕ) → j < w → get_or top' j 0 ≡ bit_and (get_or (under w used st) j 0) (get_or top j 0))
      → Stepped w env own e st top used st top' (used - 1)
  unfolding and_top
  step-and n q z =
      step-two ◌&&◌ (λ f x v s. byte-and f e (x ∷ (v ∷ s)) q) n (λ j i h g. ap (bit i) (z j h) ∙ bit-and i (get_or (under w used st) j 0) (get_or top j 0))

  pub step-or : (used ≡ 0 → ⊥) → e ≡ 4 → ((j : ℕ) → j < w → get_or top' j 0 ≡ bit_or (get_or (under w used st) j 0) (get_or top j 0))
      → Stepped w env own e st top used st top' (used - 1)
  unfolding or_top
  step-or n q z =
      step-two ◌||◌ (λ f x v s. byte_or f e (x ∷ (v ∷ s)) q) n (λ j i h g. ap (bit i) (z j h) ∙ bit-or i (get_or (under w used st) j 0) (get_or top j 0))

  pub step-equal : (used ≡ 0 → ⊥) → 4 < e → e < 64
      → ((j : ℕ) → j < w → (i : ℕ) → i < 64 → bit i (get_or top' j 0) ≡ beq (bit i (get_or (under w used st) j 0)) (bit i (get_or top j 0)))
      → Stepped w env own e st top used st top' (used - 1)
  unfolding equal_top
  step-equal n l u r = step-two beq (λ f x v s. byte-equal f e (x ∷ (v ∷ s)) l u) n (λ j i h g. r j h i g)

pub step_lacks : (w env own e : ℕ) (st top : List ℕ) (used : ℕ) → used ≡ 0 → 2 < e → e < 64 → Stepped w env own e st top used st top 0
step_lacks w env own e st top used z l u = record {
  grows = omega arith;
  lanes = λ j i h g.
      ap (λ (k : ℕ). lane_stack (bit i (get_or top j 0)) (λ k. bit i (get_or st (w * k + j) 0)) k) (sym z)
      ∙ lane_lacks (read_at env own (64 * j + i)) e (bit i (get_or top j 0)) (λ k. bit i (get_or st (w * k + j) 0)) used z l u;
}
