-- Masks and the alternative that says the same.
use mathlib.Core.Path.{◌≡◌, refl, sym, ap, ap₂, ◌∙◌}
use mathlib.Core.Bool.{Bool, true, false, cond, ◌&&◌, beq, and-true, and_assoc}
use Prim.Native.Nat.{ℕ, zero, suc, ◌+◌, ◌-◌, ◌/◌, ◌%◌, ◌^◌, ◌<◌}
use native.Mathlib.Omega.{arith}
use lib.Dec.{eqb}
use lib.ListN.{length}
use borrow.Author.Tests.{lt-ltb}
use Rattle.words.specs.Bits.{bit, from_bits}
use Rattle.words.proofs.Bools.{and_join}
use Rattle.words.proofs.BitLaws.{digit-zero, digit-suc, bit_high}
use Rattle.words.proofs.FromBits.{from_word}
use Rattle.completions.specs.Completion.{masked}
use Rattle.letters.specs.Matching.{agrees, matches}
use Rattle.letters.proofs.Matching.{known_small, valid, matches-masked}
use Rattle.letter_table.specs.Entry.{entry_of}
use Rattle.line_scan.specs.Lines.{is_mark, all_marks, fits}
use Rattle.line_scan.specs.Index.{index_of, marks_of, EntryOfMasks}
use Rattle.line_scan.proofs.Fitting.{suits}
use Rattle.line_scan.proofs.Indexing.{entry_of-marks}

-- ---- the marks

marks-length : (m known val : ℕ) → length (marks_of m known val) ≡ m
unfolding marks_of
marks-length zero known val = refl
marks-length (suc m) known val = ap suc (marks-length m (known / 2) (val / 2))

is_mark_lem : (t : Bool) (d : ℕ) → d < 2 → is_mark (cond t (48 + d) 63) ≡ true
is_mark_lem true zero h = refl
is_mark_lem true (suc zero) h = refl
is_mark_lem true (suc (suc d)) h = absurd (omega arith)
is_mark_lem false d h = refl

all-marks : (m known val : ℕ) → all_marks (marks_of m known val) ≡ true
unfolding marks_of all_marks
all-marks zero known val = refl
all-marks (suc m) known val = and_join _ _ (is_mark_lem (bit 0 known) (val % 2) (omega arith)) (all-marks m (known / 2) (val / 2))

-- ---- the letters that fit them

bit_half : (i w : ℕ) → bit (suc i) w ≡ bit i (w / 2)
unfolding bit
bit_half i w = ap (λ (d : ℕ). eqb d 1) (digit-suc i w)

bit-last : (w : ℕ) → bit 0 w ≡ eqb (w % 2) 1
unfolding bit
bit-last w = ap (λ (d : ℕ). eqb d 1) (digit-zero w)

-- what masks say of an input beyond the first, they say of the inputs from the second on
agrees_half : (known val i l : ℕ) → agrees known val (suc i) l ≡ agrees (known / 2) (val / 2) i (l / 2)
agrees_half known val i l = rw (bit_half i known, bit_half i val, bit_half i l)

first_rest : (known val m l : ℕ) → matches known val (suc m) l ≡ (agrees known val 0 l && matches (known / 2) (val / 2) m (l / 2))
unfolding matches
first_rest known val zero l = sym (and-true (agrees known val 0 l))
first_rest known val (suc m) l =
    ap₂ ◌&&◌ (first_rest known val m l) (agrees_half known val m l)
    ∙ and_assoc (agrees known val 0 l) (matches (known / 2) (val / 2) m (l / 2)) (agrees (known / 2) (val / 2) m (l / 2))

mark_says : (t : Bool) (d e : ℕ) → d < 2 → e < 2 → suits (cond t (48 + d) 63) e ≡ cond t (beq (eqb e 1) (eqb d 1)) true
mark_says true zero zero h g = refl
mark_says true zero (suc zero) h g = refl
mark_says true zero (suc (suc e)) h g = absurd (omega arith)
mark_says true (suc zero) zero h g = refl
mark_says true (suc zero) (suc zero) h g = refl
mark_says true (suc zero) (suc (suc e)) h g = absurd (omega arith)
mark_says true (suc (suc d)) e h g = absurd (omega arith)
mark_says false d e h g = refl

marks_fit : (m known val l : ℕ) → fits (marks_of m known val) l ≡ matches known val m l
unfolding fits marks_of matches
marks_fit zero known val l = refl
marks_fit (suc m) known val l =
    ap₂ ◌&&◌ (mark_says (bit 0 known) (val % 2) (l % 2) (omega arith) (omega arith) ∙ ap₂ (λ (a b : Bool). cond (bit 0 known) (beq a b) true) (sym (bit-last l)) (sym (bit-last val)))
    (marks_fit m (known / 2) (val / 2) (l / 2))
    ∙ sym (first_rest known val m l)

-- of inputs that aren't known, nothing is said
unknown : (known val m k l : ℕ) → known < 2 ^ m → matches known val (m + k) l ≡ matches known val m l
unfolding matches
unknown known val m zero l h = let z : m + 0 ≡ m = omega arith in ap (λ (n : ℕ). matches known val n l) z
unknown known val m (suc k) l h =
    let z : m + suc k ≡ suc (m + k) = omega arith in
    ap (λ (n : ℕ). matches known val n l) z
    ∙ ap₂ ◌&&◌ (unknown known val m k l h) (ap (λ (t : Bool). cond t (beq (bit (m + k) l) (bit (m + k) val)) true) (bit_high m (m + k) known h (omega arith)))
    ∙ and-true (matches known val m l)

pub entry_of_masks : EntryOfMasks
entry_of_masks m known val w few ok set =
    let size = marks-length m known val in
    let entry : entry_of (index_of (marks_of m known val)) ≡ from_bits (2 ^ m) (fits (marks_of m known val)) =
    (entry_of-marks (marks_of m known val) (omega arith) (all-marks m known val)).1 ∙ ap (λ (k : ℕ). from_bits (2 ^ k) (fits (marks_of m known val))) size in
    let rest : m + (6 - m) ≡ 6 = omega arith in
    let same : (l : ℕ) → masked known val l ≡ fits (marks_of m known val) l =
    λ l. sym (matches-masked known val l (valid m known val few ok)) ∙ ap (λ (n : ℕ). matches known val n l) (sym rest)
    ∙ unknown known val m (6 - m) l (known_small m known val ok) ∙ sym (marks_fit m known val l) in
    from_word (2 ^ m) (2 ^ m) w (fits (marks_of m known val)) (omega arith) set.small
    (λ l h. set.letters l h ∙ same l ∙ ap (λ (t : Bool). t && fits (marks_of m known val) l) (sym (lt-ltb l (2 ^ m) h)))
    ∙ sym entry
