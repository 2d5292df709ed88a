-- The index of an alternative's marks in the table of letter sets, and what its entry is (02, W5).
-- Manual: "The table of letter sets".
use Rattle.std.specs.Prelude.{◌≡◌, true, false, cond, List, [], ◌∷◌, ℕ, zero, suc, ◌+◌, ◌*◌, ◌/◌, ◌%◌, ◌^◌, ◌≤◌, ◌<◌, eqb, length}
use Rattle.words.specs.Bits.{bit, from_bits}
use Rattle.letters.specs.Masks.{bad_masks}
use Rattle.letters.specs.Sets.{MaskSet}
use Rattle.letter_table.specs.Entry.{entry_of}
use Rattle.line_scan.specs.Lines.{all_marks, fits}

-- the digit of a mark: 2 for `?`, 1 for `1`, 0 for `0`
abbrev pub mark_digit : ℕ → ℕ
mark_digit b = cond (eqb b 63) 2 (cond (eqb b 49) 1 0)

-- digits in base 3, the first mark's lowest; an input that has no mark gets 0
unfoldable pub index_of : List ℕ → ℕ
index_of [] = 0
index_of (b ∷ bs) = mark_digit b + 3 * index_of bs

-- the entry at the index of m marks has the letters below 2^m that fit them, and no other
abbrev pub EntryOfMarks : Type 0
EntryOfMarks = (a : List ℕ) → length a ≤ 6 → all_marks a ≡ true → (index_of a < 3 ^ length a) × (entry_of (index_of a) ≡ from_bits (2 ^ length a) (fits a))

-- the alternative that says of m inputs what masks say: `0` or `1` where the known mask has a bit, and `?` elsewhere
unfoldable pub marks_of : ℕ → ℕ → ℕ → List ℕ
marks_of zero known val = []
marks_of (suc m) known val = cond (bit 0 known) (48 + val % 2) 63 ∷ marks_of m (known / 2) (val / 2)

-- the set of masks that rule 11 lets pass is the entry of that alternative
abbrev pub EntryOfMasks : Type 0
EntryOfMasks = (m known val w : ℕ) → m ≤ 6 → bad_masks m known val ≡ false → MaskSet m known val w → w ≡ entry_of (index_of (marks_of m known val))
