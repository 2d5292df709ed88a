-- Reading a sheet is refused by the first check that is broken, and accepted where none is (01, "What is turned down").
-- Manual: "Refusals".
use Rattle.std.specs.Prelude.{List, ℕ, Err}
use Rattle.outcomes.specs.Decided.{Decided}
use Rattle.outcomes.specs.Outcome.{Outcome, unbroken}
use Rattle.sheet.specs.RuleSheet.{Reading, accepted, refused, read_sheet}
use Rattle.sheet.specs.ReadingChecks.{reading_checks}

-- the outcome of a reading
abbrev pub reading_outcome : Reading → Outcome
reading_outcome (accepted x) = unbroken
reading_outcome (refused r) = Err r

abbrev pub ReadingDecided : Type 0
ReadingDecided = (bs : List ℕ) → Decided (reading_checks bs) (reading_outcome (read_sheet bs))
