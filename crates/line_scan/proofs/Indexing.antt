-- The index of marks, and the entry that it finds.
use mathlib.Core.Path.{◌≡◌, refl, sym, ap, ap₂, ◌∙◌}
use mathlib.Core.Bool.{Bool, true, false, cond, ◌&&◌, ◌||◌, and-true, and-false}
use mathlib.Core.List.{List, [], ◌∷◌, ◌++◌}
use Prim.Native.Nat.{ℕ, zero, suc, ◌+◌, ◌*◌, ◌/◌, ◌%◌, ◌^◌, ◌≤◌, ◌<◌}
use native.Mathlib.Decide.{dec_lt}
use native.Mathlib.Nat.{pow-suc, mul_assoc, mul_comm, mul-le-mul_right}
use native.Mathlib.Numerals.{add-one}
use native.Mathlib.Omega.{arith}
use lib.Dec.{eqb, ltb}
use lib.ListN.{length}
use lib.Pow.{pow_mono}
use borrow.Author.Tests.{ne_eqb, lt-ltb, le-ltb}
use Rattle.words.specs.Bits.{from_bits}
use Rattle.words.proofs.Bools.{and_split}
use Rattle.words.proofs.FromBits.{from-bit, from_lt, from_word}
use Rattle.letter_table.specs.Entry.{matches_digits, entry_of}
use Rattle.line_scan.specs.Lines.{is_mark, all_marks, fits}
use Rattle.line_scan.specs.Index.{mark_digit, index_of, EntryOfMarks}
use Rattle.line_scan.specs.Scan.{Indexed}
use Rattle.line_scan.specs.declared.kept.Alternatives.{Alternatives}
use Rattle.line_scan.proofs.Fitting.{suits, mark_cases}

digit_le : (b : ℕ) → mark_digit b ≤ 2
digit_le b = go (eqb b 63) (eqb b 49)
  where
    go : (t u : Bool) → cond t 2 (cond u 1 0) ≤ 2
    go true u = omega arith
    go false true = omega arith
    go false false = omega arith

index_lt : (a : List ℕ) → index_of a < 3 ^ length a
unfolding index_of
index_lt [] = omega arith
index_lt (b ∷ bs) = omega (arith, index_lt bs, digit_le b, pow-suc 3 (length bs))

onward : (d i e p : ℕ) → d + 3 * (i + e * p) ≡ d + 3 * i + e * (p * 3)
onward d i e p = let z : e * (p * 3) ≡ e * p * 3 = sym (mul_assoc e p 3) in omega arith

-- one mark more, whose digit has the next place
pub index-more : (a : List ℕ) (b : ℕ) → index_of (a ++ b ∷ []) ≡ index_of a + mark_digit b * 3 ^ length a
unfolding index_of
index-more [] b = omega arith
index-more (c ∷ a) b =
    ap (λ (i : ℕ). mark_digit c + 3 * i) (index-more a b) ∙ onward (mark_digit c) (index_of a) (mark_digit b) (3 ^ length a) ∙ ap (λ (p : ℕ). mark_digit c + 3 * index_of a + mark_digit b * p) (sym (pow-suc 3 (length a)))

-- a mark says the same of a bit as its digit
digit_suits : (b : ℕ) → is_mark b ≡ true → (d : ℕ) → d < 2 → (eqb (mark_digit b) 2 || eqb (mark_digit b) d) ≡ suits b d
digit_suits b e zero h = mark_cases b (λ b. (eqb (mark_digit b) 2 || eqb (mark_digit b) 0) ≡ suits b 0) refl refl refl e
digit_suits b e (suc zero) h = mark_cases b (λ b. (eqb (mark_digit b) 2 || eqb (mark_digit b) 1) ≡ suits b 1) refl refl refl e
digit_suits b e (suc (suc d)) h = absurd (omega arith)

half_below : (l n : ℕ) → ltb (l / 2) n ≡ ltb l (2 * n)
half_below l n = go (dec_lt l (2 * n))
  where
    go : Dec (l < 2 * n) → ltb (l / 2) n ≡ ltb l (2 * n)
    go (yes h) = lt-ltb (l / 2) n (omega arith) ∙ sym (lt-ltb l (2 * n) h)
    go (no h) = le-ltb (l / 2) n (omega arith) ∙ sym (le-ltb l (2 * n) (omega arith))

only_zero : (l : ℕ) → (eqb 0 (l % 2) && ltb (l / 2) 1) ≡ ltb l 1
only_zero l = go (dec_lt l 1) (l % 2) refl
  where
    go : Dec (l < 1) → (d : ℕ) → l % 2 ≡ d → (eqb 0 d && ltb (l / 2) 1) ≡ ltb l 1
    go (yes h) zero e = lt-ltb (l / 2) 1 (omega arith) ∙ sym (lt-ltb l 1 h)
    go (no h) zero e = le-ltb (l / 2) 1 (omega arith) ∙ sym (le-ltb l 1 (omega arith))
    go (yes h) (suc d) e = absurd (omega arith)
    go (no h) (suc d) e = ap (λ (t : Bool). t && ltb (l / 2) 1) (ne_eqb 0 (suc d) (λ z. omega arith)) ∙ sym (le-ltb l 1 (omega arith))

swap : (a b c : Bool) → (a && (b && c)) ≡ (b && (a && c))
swap true b c = refl
swap false b c = sym (and-false b)

-- the digits of marks, and behind them zeros: a letter matches them that fits the marks and has no bit beyond
matches-marks : (k : ℕ) (a : List ℕ) → length a ≤ k → all_marks a ≡ true → (l : ℕ) → l < 2 ^ k → matches_digits k (index_of a) l ≡ (ltb l (2 ^ length a) && fits a l)
unfolding matches_digits index_of fits all_marks
matches-marks zero [] n e l h = ap (λ (t : Bool). t && true) (sym (lt-ltb l 1 h))
matches-marks zero (b ∷ bs) n e l h = absurd (omega arith)
matches-marks (suc k) [] n e l h =
    ap (λ (t : Bool). eqb 0 (l % 2) && t) (matches-marks k [] (omega arith) e (l / 2) (omega (arith, pow-suc 2 k)) ∙ and-true (ltb (l / 2) 1)) ∙ only_zero l ∙ sym (and-true (ltb l 1))
matches-marks (suc k) (b ∷ bs) n e l h =
    let z = and_split (is_mark b) (all_marks bs) e in
    let low : (mark_digit b + 3 * index_of bs) % 3 ≡ mark_digit b = omega (arith, digit_le b) in
    let high : (mark_digit b + 3 * index_of bs) / 3 ≡ index_of bs = omega (arith, digit_le b) in
    let half : 2 * 2 ^ length bs ≡ 2 ^ suc (length bs) = omega (arith, pow-suc 2 (length bs)) in
    ap₂ (λ (d i : ℕ). (eqb d 2 || eqb d (l % 2)) && matches_digits k i (l / 2)) low high
    ∙ ap₂ ◌&&◌ (digit_suits b z.0 (l % 2) (omega arith)) (matches-marks k bs (omega arith) z.1 (l / 2) (omega (arith, pow-suc 2 k)))
    ∙ swap (suits b (l % 2)) (ltb (l / 2) (2 ^ length bs)) (fits bs (l / 2))
    ∙ ap (λ (t : Bool). t && (suits b (l % 2) && fits bs (l / 2))) (half_below l (2 ^ length bs) ∙ ap (ltb l) half)

pub entry_of-marks : EntryOfMarks
unfolding entry_of
entry_of-marks a few e =
    let fit : 2 ^ length a ≤ 2 ^ 6 = pow_mono few in
    let f : ℕ → Bool = matches_digits 6 (index_of a) in (
      index_lt a,
      from_word 64 (2 ^ length a) (from_bits 64 f) (fits a) fit (from_lt 64 f)
          (λ l h. from-bit 64 f l ∙ ap (λ (t : Bool). t && f l) (lt-ltb l 64 h) ∙ matches-marks 6 a few e l h),
    )

-- ---- the index of the alternative at hand

power_le : (k n : ℕ) → k ≤ n → 3 ^ k ≤ 3 ^ n
power_le zero zero h = omega arith
power_le zero (suc n) h = omega (arith, power_le zero n (omega arith), pow-suc 3 n)
power_le (suc k) zero h = absurd (omega arith)
power_le (suc k) (suc n) h = omega (arith, power_le k n (omega arith), pow-suc 3 k, pow-suc 3 n)

pub in_table : (q : Alternatives) → Indexed q → q.index < 729
in_table q h = omega (arith, power_le q.count 6 h.few, h.place, h.below)

-- a mark more
module _ (q : Alternatives) (h : Indexed q) (few : q.count < 6) (b : ℕ) where
  pub place-le : q.place ≤ 243
  place-le = omega (arith, power_le q.count 5 (omega arith), h.place)

  pub digit-place : mark_digit b * q.place ≤ 2 * q.place
  digit-place = mul-le-mul_right q.place (digit_le b)

  pub still-indexed : (r : Alternatives) → r.count ≡ q.count + 1 → r.index ≡ q.index + mark_digit b * q.place → r.place ≡ 3 * q.place → Indexed r
  still-indexed r c i p = record {
    few = omega arith;
    place = p ∙ ap (λ (z : ℕ). 3 * z) h.place ∙ mul_comm 3 (3 ^ q.count) ∙ sym (pow-suc 3 q.count) ∙ ap (λ (k : ℕ). 3 ^ k) (sym (add-one q.count) ∙ sym c);
    below = omega (arith, digit-place, h.below);
  }
