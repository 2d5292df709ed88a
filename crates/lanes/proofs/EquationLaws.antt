-- The equations tested one after the other on the words of a row.
use mathlib.Core.Path.{◌≡◌, refl, sym, ap, ap₂, ◌∙◌}
use mathlib.Core.Bool.{false, ◌&&◌, beq}
use mathlib.Core.List.{List, [], ◌∷◌}
use Prim.Native.Nat.{ℕ, zero, suc, ◌+◌, ◌*◌, ◌≤◌, ◌<◌}
use native.Mathlib.Omega.{arith}
use lib.ListN.{get_or}
use Rattle.words.specs.Bits.{bit}
use Rattle.words.proofs.BitLaws.{bit-all}
use Rattle.lanes.specs.Around.{lane_look, here, Filled}
use Rattle.lanes.specs.Coded.{Coded, Values, Agree}
use Rattle.lanes.proofs.CodeLaws.{agreed-none, agreed-more, agreed-stop, part-parses}
use Rattle.sheet.specs.Parts.{code_at}

module _ (w env own m n : ℕ) (code len : List ℕ) (b : ℕ) where
  pub agree-none : (acc : List ℕ) → Filled w (λ j. 18446744073709551615) acc → Agree w env own m n code len b acc 0
  agree-none acc h = record { lanes = λ j i g l. ap (bit i) (h j g) ∙ bit-all 64 i l ∙ sym (agreed-none (lane_look env own (64 * j + i)) (m + n) code len m (here own b (64 * j + i))) }

  -- x has the values of expression k, and q is the stream of output k
  pub agree-more : (acc acc' x bytes : List ℕ) (k q : ℕ) → Coded m n code len → k < n → Agree w env own m n code len b acc k
      → bytes ≡ code_at code len k → Values w env own bytes x
      → q ≡ m + k
      → ((j i : ℕ) → j < w → i < 64 → bit i (get_or acc' j 0) ≡ (bit i (get_or acc j 0) && beq (bit i (get_or x j 0)) (bit q (here own b (64 * j + i)))))
      → Agree w env own m n code len b acc' (k + 1)
  agree-more acc acc' x bytes k q c h old cut values stream keep = record {
    lanes = λ j i g l.
        keep j i g l
        ∙ agreed-more (lane_look env own (64 * j + i)) (m + n) code len m (here own b (64 * j + i)) k (bit i (get_or acc j 0)) (beq (bit i (get_or x j 0)) (bit q (here own b (64 * j + i)))) (old.lanes j i g l)
        (ap₂ beq (values.lanes _ _ (part-parses m n code len c k h bytes cut) j i g l) (ap (λ (r : ℕ). bit r (here own b (64 * j + i))) stream));
  }

  -- where no lane is left, none comes back
  pub agree-stop : (acc : List ℕ) (k : ℕ) → k ≤ n → Agree w env own m n code len b acc k → ((j i : ℕ) → j < w → bit i (get_or acc j 0) ≡ false) → Agree w env own m n code len b acc n
  agree-stop acc k h old none = record {
    lanes = λ j i g l. none j i g ∙ agreed-stop (lane_look env own (64 * j + i)) (m + n) code len m (here own b (64 * j + i)) k n h (sym (old.lanes j i g l) ∙ none j i g);
  }

module _ (env own m n : ℕ) (code len : List ℕ) (b : ℕ) where
  -- a row of two words, in the first two of four
  pub agree-two : (row : List ℕ) (k : ℕ) → Agree 2 env own m n code len b row k → Agree 2 env own m n code len b (get_or row 0 0 ∷ (get_or row 1 0 ∷ (0 ∷ (0 ∷ [])))) k
  agree-two row k a = record { lanes = λ j i h g. ap (bit i) (word j h) ∙ a.lanes j i h g }
    where
      word : (j : ℕ) → j < 2 → get_or (get_or row 0 0 ∷ (get_or row 1 0 ∷ (0 ∷ (0 ∷ [])))) j 0 ≡ get_or row j 0
      word zero h = refl
      word (suc zero) h = refl
      word (suc (suc j)) h = absurd (omega arith)

  -- what holds in so many words holds in fewer
  pub agree-fewer : (w w' : ℕ) (row : List ℕ) (k : ℕ) → Agree w' env own m n code len b row k → w ≤ w' → Agree w env own m n code len b row k
  agree-fewer w w' row k a l = record { lanes = λ j i h g. a.lanes j i (omega arith) g }
