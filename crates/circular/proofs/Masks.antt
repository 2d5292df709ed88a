-- The words and masks of reads.
use mathlib.Core.Path.{◌≡◌, refl, sym, ap, ◌∙◌}
use mathlib.Core.Bool.{Bool, true, false, not, ◌||◌}
use mathlib.Core.List.{List}
use Prim.Native.Nat.{ℕ, zero, suc, ◌+◌, ◌*◌, ◌/◌, ◌^◌, ◌≤◌, ◌<◌}
use native.Mathlib.Omega.{arith}
use native.Mathlib.Decide.{dec_lt}
use lib.ListN.{get_or, get_or-eq_default}
use lib.Bits.{bit_or}
use lib.Dec.{eqb}
use borrow.Author.Count.{below_more}
use borrow.Author.Tests.{eqb-true, not-false}
use Rattle.words.specs.Bits.{bit, digit}
use mir.Val.{bool_byte}
use Rattle.words.proofs.BitLaws.{bit-or, bit-none, bit-shr}
use Rattle.words.proofs.Bools.{or-none}
use Rattle.sheet.specs.Expression.{constant, newest}
use Rattle.sheet.specs.Reading.{rule_sheet}
use Rattle.sheet.specs.declared.Sheet.{Sheet}
use Rattle.sheet.proofs.Sheets.{usable, sheet-outputs, tree-at}
use Rattle.lola.specs.Reads.{has_read}
use Rattle.lola.specs.ByteReads.{read_in}
use Rattle.lola.proofs.TreeReads.{none_in, read-or}
use Rattle.circular.specs.Circular.{Circular, CircularSheet, edges}
use Rattle.circular.specs.Table.{row_of, reads_of, reads_of_words}
use Rattle.circular.specs.Masks.{OutputWords, Mask, MaskRow, Tells}
use Rattle.circular.proofs.Sweep.{circular_map}

-- ---- one word

-- the mask of the streams that w has reads of at the offset number o
abbrev Streams : ℕ → ℕ → ℕ → Type 0
Streams w o x = (q : ℕ) → bit q x ≡ read_in w q o

-- three bits side by side
three : Bool → Bool → Bool → ℕ
three x y z = bool_byte x + 2 * bool_byte y + 4 * bool_byte z

three-bits : (x y z : Bool) → (bit 0 (three x y z) ≡ x) × (bit 1 (three x y z) ≡ y) × (bit 2 (three x y z) ≡ z)
unfolding three bit digit
three-bits false false false = (refl, refl, refl)
three-bits false false true = (refl, refl, refl)
three-bits false true false = (refl, refl, refl)
three-bits false true true = (refl, refl, refl)
three-bits true false false = (refl, refl, refl)
three-bits true false true = (refl, refl, refl)
three-bits true true false = (refl, refl, refl)
three-bits true true true = (refl, refl, refl)

module _ (w e n l : ℕ) (earlier : Streams w 0 e) (same : Streams w 1 n) (later : Streams w 2 l) where
  pub mask-bits : (q x : ℕ) → x ≡ bool_byte (bit q e) + 2 * bool_byte (bit q n) + 4 * bool_byte (bit q l) → Mask w q x
  unfolding three
  mask-bits q x d = rw d (record { bits = go })
    where
      go : (o : ℕ) → o ≤ 2 → bit o (three (bit q e) (bit q n) (bit q l)) ≡ read_in w q o
      go zero h = (three-bits (bit q e) (bit q n) (bit q l)).0 ∙ earlier q
      go (suc zero) h = (three-bits (bit q e) (bit q n) (bit q l)).1 ∙ same q
      go (suc (suc zero)) h = (three-bits (bit q e) (bit q n) (bit q l)).2 ∙ later q
      go (suc (suc (suc o))) h = absurd (omega arith)

  -- where no stream from m on is read at any offset
  pub no_reads : (f m : ℕ) → f ≡ m → not (eqb (bit_or (bit_or e n) l / 2 ^ f) 0) ≡ false → (q o : ℕ) → o ≤ 2 → read_in w (m + q) o ≡ false
  no_reads f m i z q = go
    where
      none : ((bit (m + q) e || bit (m + q) n) || bit (m + q) l) ≡ false
      none =
          ap (λ (u : Bool). u || bit (m + q) l) (sym (bit-or (m + q) e n)) ∙ sym (bit-or (m + q) (bit_or e n) l)
          ∙ sym (bit-shr q m (bit_or (bit_or e n) l)) ∙ ap (bit q) (rw i at (eqb-true (bit_or (bit_or e n) l / 2 ^ f) 0 (not-false _ z))) ∙ bit-none q

      go : (o : ℕ) → o ≤ 2 → read_in w (m + q) o ≡ false
      go zero h = sym (earlier (m + q)) ∙ (or-none _ _ (or-none _ _ none).0).0
      go (suc zero) h = sym (same (m + q)) ∙ (or-none (bit (m + q) e) _ (or-none _ _ none).0).1
      go (suc (suc zero)) h = sym (later (m + q)) ∙ (or-none (bit (m + q) e || bit (m + q) n) _ none).1
      go (suc (suc (suc o))) h = absurd (omega arith)

-- ---- the words of a sheet's outputs

-- what the word w lacks, the first s of the words lack
pub record Lacks (ws : List ℕ) (w s : ℕ) : Type 0 where
  pub none : (j : ℕ) → j < s → (q o : ℕ) → read_in w q o ≡ false → read_in (get_or ws j 0) q o ≡ false

pub lacks_more : (ws : List ℕ) (w s : ℕ) → Lacks ws w s → Lacks ws (bit_or w (get_or ws s 0)) (s + 1)
lacks_more ws w s k =
    record {
      none = below_more (λ j. (q o : ℕ) → read_in (bit_or w (get_or ws s 0)) q o ≡ false → read_in (get_or ws j 0) q o ≡ false) s
          (λ j h q o e. k.none j h q o (or-none _ _ (sym (read-or w (get_or ws s 0) q o) ∙ e)).0)
          (λ q o e. (or-none (read_in w q o) _ (sym (read-or w (get_or ws s 0) q o) ∙ e)).1);
    }

module _ (x : Sheet) (ws : List ℕ) (r : OutputWords x.code x.len x.outputs ws) where
  word-edges : (s q o : ℕ) → s < 7 → reads_of_words ws x.inputs s q o ≡ edges (rule_sheet x) s q o
  unfolding edges has_read
  word-edges s q o l = go (dec_lt s x.outputs)
    where
      go : Dec (s < x.outputs) → read_in (get_or ws s 0) (x.inputs + q) o ≡ has_read (get_or (rule_sheet x).expressions s (constant false)) (x.inputs + q) o
      go (yes h) =
          rw (tree-at (x.inputs + x.outputs) x.code x.len x.outputs s (constant false) h)
          (((r.rows s l).there h).reads (newest (x.inputs + x.outputs)) _ ((usable x).parts s h).parses (x.inputs + q) o)
      go (no h) =
          rw ((r.rows s l).absent (omega arith), get_or-eq_default (rule_sheet x).expressions (constant false) {n = s} (omega (arith, sheet-outputs x)))
          (none_in (x.inputs + q) o)

  pub sheet-circular : Circular x.outputs (reads_of_words ws x.inputs) → CircularSheet (rule_sheet x)
  sheet-circular =
      circular_map
      (λ s q o e.
      let l : s < 7 = omega (arith, e.from, x.ranges.outputs) in
      record { from = omega (arith, e.from, sheet-outputs x); to = omega (arith, e.to, sheet-outputs x); off = e.off; is = sym (word-edges s q o l) ∙ e.is })

  pub circular-sheet : CircularSheet (rule_sheet x) → Circular x.outputs (reads_of_words ws x.inputs)
  circular-sheet =
      circular_map
      (λ s q o e.
      let l : s < 7 = omega (arith, e.from, x.ranges.outputs, sheet-outputs x) in
      record { from = omega (arith, e.from, sheet-outputs x); to = omega (arith, e.to, sheet-outputs x); off = e.off; is = word-edges s q o l ∙ e.is })

  -- the table of masks
  pub tells : (masks : List (List ℕ)) → ((s : ℕ) → s < 7 → MaskRow (get_or ws s 0) x.inputs (row_of masks s)) → Tells (rule_sheet x) masks
  unfolding reads_of
  tells masks m = record { reads = λ s q o hs hq ho. ((m s hs).cells q hq).bits o ho ∙ word-edges s q o hs }
