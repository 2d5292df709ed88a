-- Rules 1 to 10 of a sheet, in their order (01, "What is turned down"): first those of reading it, last rule 10.
-- Manual: "Refusals".
use Rattle.std.specs.Prelude.{◌≡◌, List, [], ◌∷◌, ◌++◌, ℕ}
use Rattle.outcomes.specs.Decided.{Check, check, Decided}
use Rattle.outcomes.specs.declared.Refusal.TheVariants.{Circular}
use Rattle.outcomes.specs.Outcome.{unbroken}
use Rattle.sheet.specs.ReadingChecks.{reading_checks}
use Rattle.sheet.specs.RuleSheet.{RuleSheet, accepted, read_sheet}
use Rattle.sheet.specs.Reading.{rule_sheet, Usable}
use Rattle.sheet.specs.declared.Sheet.{Sheet}
use Rattle.circular.specs.Circular.{CircularSheet}

-- P holds of the sheet that the bytes read as
abbrev pub OfSheet : List ℕ → (RuleSheet → Type 0) → Type 0
OfSheet bs P = (x : RuleSheet) × (read_sheet bs ≡ accepted x) × P x

-- all checks of a sheet
abbrev pub sheet_checks : List ℕ → List Check
sheet_checks bs = reading_checks bs ++ (check Circular (OfSheet bs CircularSheet) ∷ [])

-- the bytes are accepted, and x is what they were read as
pub record AcceptedSheet (bs : List ℕ) (x : Sheet) : Type 0 where
  pub decided : Decided (sheet_checks bs) unbroken
  pub reads : read_sheet bs ≡ accepted (rule_sheet x)
  pub usable : Usable x
  pub level : CircularSheet (rule_sheet x) → ⊥
