-- What blank lines are, as types (02, W3).
-- Manual: "The program".
use Rattle.std.specs.Prelude.{◌≡◌, false, [], ℕ, ◌≤◌, replicate}
use Rattle.outcomes.specs.declared.Refusal.{Refusal}
use Rattle.outcomes.specs.declared.Refusal.TheVariants.{Full}
use Rattle.sheet.specs.RuleSheet.{RuleSheet}
use Rattle.claims.specs.Book.{Call, refused, Book, BookStep}
use Rattle.line_scan.specs.Lines.{calls, malformed, read_line, asked, asks}

-- before the closing, a blank line and a line of m `?` stand for the same call
abbrev pub BlankAsUnknown : Type 0
BlankAsUnknown = (m : ℕ) → 1 ≤ m → (c : Call) × (asked m false (read_line m []) ≡ calls c) × (asked m false (read_line m (replicate m 63)) ≡ calls c)

-- a blank line is never malformed, and no rule refuses it but 13
abbrev pub BlankRefused : Type 0
BlankRefused = (x : RuleSheet) (b : Book) → (asks x b [] ≡ malformed → ⊥) × ((b₁ : Book) (c : Call) (r : Refusal) → asks x b [] ≡ calls c → BookStep x b c (refused r) b₁ → r ≡ Full)
