-- What blank lines are: rounds with all letters.
use mathlib.Core.Path.{◌≡◌, refl, sym, ap, ◌∙◌, fun_ext}
use mathlib.Core.Bool.{Bool, true, false, cond, ◌||◌, and-true, true≢false}
use mathlib.Core.List.{List, [], ◌∷◌, ◌++◌, append-nil}
use mathlib.Core.Option.{none, some}
use Prim.Native.Nat.{ℕ, zero, suc, ◌/◌, ◌^◌, ◌≤◌, ◌<◌}
use native.Mathlib.Omega.{arith}
use lib.Dec.{leb, ltb}
use lib.ListN.{length, replicate, length-replicate}
use lib.Pow.{pow_pos, pow_mono}
use lib.Seq.{append_snoc}
use Rattle.outcomes.specs.declared.Refusal.{Refusal}
use Rattle.outcomes.specs.declared.Refusal.TheVariants.{Full}
use Rattle.words.specs.Bits.{bit, from_bits}
use Rattle.words.proofs.FromBits.{from_word}
use Rattle.words.proofs.Options.{nothing, same_some}
use Rattle.sheet.specs.RuleSheet.{RuleSheet}
use Rattle.record.specs.Record.{max_rounds}
use Rattle.letters.specs.Sets.{bad_set}
use Rattle.claims.specs.Book.{Call, round, refused, refusal, Book, BookStep, refuse}
use Rattle.line_scan.specs.Lines.{all_marks, alternatives_from, all_whole, fits, fits_one, line_set, is_dot, Line, blank, calls, malformed, read_line, all_letters, asked, asks}
use Rattle.line_scan.specs.Blank.{BlankAsUnknown, BlankRefused}
use Rattle.line_scan.proofs.Scanning.{all_whole_lem}
use Rattle.line_scan.proofs.Standing.{round_line, empty-blank, bits_good, good_line}

-- ---- all letters

-- a word with just the bits below 2^m
pub all-letters : (m w : ℕ) → m ≤ 6 → w < 2 ^ 64 → ((l : ℕ) → l < 64 → bit l w ≡ ltb l (2 ^ m)) → w ≡ all_letters m
unfolding all_letters
all-letters m w h g f =
    let fit : 2 ^ m ≤ 2 ^ 6 = pow_mono h in
    from_word 64 (2 ^ m) w (λ l. true) fit g (λ l b. f l b ∙ sym (and-true (ltb l (2 ^ m))))

all_good : (m : ℕ) → bad_set m (all_letters m) ≡ false
unfolding all_letters
all_good m = bits_good m (λ l. true) 0 (pow_pos m) refl

-- ---- a line of `?`

unknown_fits : (m l : ℕ) → fits (replicate m 63) l ≡ true
unfolding fits
unknown_fits zero l = refl
unknown_fits (suc m) l = unknown_fits m (l / 2)

unknown_marks : (m : ℕ) → all_marks (replicate m 63) ≡ true
unfolding all_marks
unknown_marks zero = refl
unknown_marks (suc m) = unknown_marks m

unknown_alone : (m : ℕ) (p : List ℕ) → alternatives_from p (replicate m 63) ≡ (p ++ replicate m 63) ∷ []
unfolding alternatives_from
unknown_alone zero p = ap (λ (z : List ℕ). z ∷ []) (sym (append-nil p))
unknown_alone (suc m) p = unknown_alone m (p ++ 63 ∷ []) ∙ ap (λ (z : List ℕ). z ∷ []) (append_snoc p 63 (replicate m 63))

no_dot : (m : ℕ) → is_dot (replicate m 63) ≡ false
no_dot zero = refl
no_dot (suc zero) = refl
no_dot (suc (suc m)) = refl

unknown_set : (m : ℕ) → line_set m (replicate m 63) ≡ all_letters m
unfolding line_set fits_one all_letters
unknown_set m =
    ap (λ (z : List (List ℕ)). from_bits (2 ^ m) (fits_one z)) (unknown_alone m [])
    ∙ ap (from_bits (2 ^ m)) (fun_ext (λ l. ap (λ (t : Bool). t || false) (unknown_fits m l)))

unknown_round : (m : ℕ) → 1 ≤ m → read_line m (replicate m 63) ≡ calls (round (all_letters m))
unfolding all_whole
unknown_round m h =
    let size : length (replicate {A = ℕ} m 63) ≡ m = length-replicate {A = ℕ} m 63 in
    round_line m (replicate m 63) (omega (arith, size)) (no_dot m)
    (rw (unknown_alone m []) (all_whole_lem m [] (replicate m 63) refl size (unknown_marks m)))
    ∙ ap (λ (z : ℕ). calls (round z)) (unknown_set m)

-- ---- what a line asks for

blank-round : (m : ℕ) → asked m false (read_line m []) ≡ calls (round (all_letters m))
blank-round m = ap (asked m false) (empty-blank m [] refl)

pub blank_as_unknown : BlankAsUnknown
blank_as_unknown m h = (round (all_letters m), blank-round m, ap (asked m false) (unknown_round m h))

-- no set that rule 21 refuses
pub good_asked : (x : RuleSheet) (b : Book) (l : List ℕ) (w : ℕ) → asks x b l ≡ calls (round w) → bad_set x.inputs w ≡ false
good_asked x b l w e = go b.shut (read_line x.inputs l) refl e
  where
    go : (s : Bool) (y : Line) → read_line x.inputs l ≡ y → asked x.inputs s y ≡ calls (round w) → bad_set x.inputs w ≡ false
    go true blank f e = absurd (true≢false cc)
    go false blank f e = let z : all_letters x.inputs ≡ w = cc in rw (← z) (all_good x.inputs)
    go s (calls c) f e = good_line x.inputs l w (f ∙ e)
    go s malformed f e = absurd (true≢false cc)

module _ (x : RuleSheet) (b : Book) where
  blank-asks : asks x b [] ≡ asked x.inputs b.shut blank
  blank-asks = ap (asked x.inputs b.shut) (empty-blank x.inputs [] refl)

  no-malformed : (s : Bool) → asked x.inputs s blank ≡ malformed → ⊥
  no-malformed true e = true≢false cc
  no-malformed false e = true≢false cc

  only-full : (s : Bool) (c : Call) (r : Refusal) → asked x.inputs s blank ≡ calls c → refusal x (length b.rounds) s c ≡ some r → r ≡ Full
  unfolding refusal
  only-full true c r e f = absurd (true≢false cc)
  only-full false c r e f =
      let z : round (all_letters x.inputs) ≡ c = cc in
      full (leb max_rounds (length b.rounds)) (rw (all_good x.inputs) at (rw (← z) at f))
    where
      full : (t : Bool) → cond t (some Full) none ≡ some r → r ≡ Full
      full true g = sym (same_some g)
      full false g = absurd (nothing g)

pub blank-refused : BlankRefused
blank-refused x b = (λ e. no-malformed x b b.shut (sym (blank-asks x b) ∙ e), step)
  where
    step : (b₁ : Book) (c : Call) (r : Refusal) → asks x b [] ≡ calls c → BookStep x b c (refused r) b₁ → r ≡ Full
    step b₁ c r e (refuse f) = only-full x b b.shut c r (sym (blank-asks x b) ∙ e) f
