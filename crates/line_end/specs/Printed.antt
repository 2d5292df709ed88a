-- What the program writes, said by the book (01, "The journal program"; 02, W3).
-- Manual: "The program".
use Rattle.std.specs.Prelude.{◌≡◌, cond, List, [], ◌∷◌, ◌++◌, ℕ, ◌+◌, ltb, Err}
use Rattle.outcomes.specs.Decided.{Decided}
use Rattle.outcomes.specs.declared.Refusal.{Refusal}
use Rattle.outcomes.specs.declared.Refusal.TheVariants.{Closed, Line}
use Rattle.outcomes.specs.Outcome.{unbroken}
use Rattle.outcomes.specs.declared.Verdict.{Verdict}
use Rattle.sheet.specs.RuleSheet.{RuleSheet, outputs, accepted, read_sheet}
use Rattle.circular.specs.SheetChecks.{sheet_checks}
use Rattle.text.specs.Text.{verdict_line, closing_text, line_refusal, sheet_refusal}
use Rattle.claims.specs.Book.{Call, refused, verdicts, closed, Book, empty_book, counted, BookStep}
use Rattle.line_scan.specs.Lines.{blank, calls, malformed, asks, lines_of}

-- the number of the line after line l: a number of 64 bits, which stays at its largest
abbrev pub next_line : ℕ → ℕ
next_line l = cond (ltb l 18446744073709551615) (l + 1) l

-- a line that is no call is malformed; after closing, 12 comes before 17
abbrev pub malformed_rule : Book → Refusal
malformed_rule b = cond b.shut Closed Line

-- The lines from number l on, with the book before them, and what is written. A blank line is a round before the closing and is passed over
-- after it, and the first refusal ends it.
pub data Written (x : RuleSheet) : Book → ℕ → List (List ℕ) → List ℕ → Type 0 where
  ended : {b : Book} {l : ℕ} → Written x b l [] []
  passed : {b : Book} {l : ℕ} {line : List ℕ} {ls : List (List ℕ)} {t : List ℕ} → asks x b line ≡ blank → Written x b (next_line l) ls t → Written x b l (line ∷ ls) t
  rounded : {b b₁ : Book} {l : ℕ} {line : List ℕ} {ls : List (List ℕ)} {c : Call} {vs : List Verdict} {t : List ℕ} → asks x b line ≡ calls c
      → BookStep x b c (verdicts vs) b₁ → Written x b₁ (next_line l) ls t → Written x b l (line ∷ ls) (verdict_line vs ++ t)
  shut : {b b₁ : Book} {l : ℕ} {line : List ℕ} {ls : List (List ℕ)} {c : Call} {vs : List Verdict} {xs t : List ℕ} → asks x b line ≡ calls c
      → BookStep x b c (closed vs xs) b₁ → Written x b₁ (next_line l) ls t → Written x b l (line ∷ ls) (closing_text (outputs x) vs (counted b₁.told) xs ++ t)
  turned_down : {b b₁ : Book} {l : ℕ} {line : List ℕ} {ls : List (List ℕ)} {c : Call} {r : Refusal} → asks x b line ≡ calls c
      → BookStep x b c (refused r) b₁ → Written x b l (line ∷ ls) (line_refusal r l)
  unread : {b : Book} {l : ℕ} {line : List ℕ} {ls : List (List ℕ)} → asks x b line ≡ malformed → Written x b l (line ∷ ls) (line_refusal (malformed_rule b) l)

-- What is written for the bytes of a sheet and all bytes of standard input.
pub data Printed (sheet input : List ℕ) : List ℕ → Type 0 where
  refused_sheet : (r : Refusal) → Decided (sheet_checks sheet) (Err r) → Printed sheet input (sheet_refusal r)
  journal : {x : RuleSheet} {t : List ℕ} → Decided (sheet_checks sheet) unbroken → read_sheet sheet ≡ accepted x
      → Written x empty_book 1 (lines_of input) t → Printed sheet input t
