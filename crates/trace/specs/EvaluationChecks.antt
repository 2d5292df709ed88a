-- What evaluation is refused by, in its order (01, "What is turned down"): the rules of the sheet, then 16, then 11.
-- Manual: "Refusals".
use Rattle.std.specs.Prelude.{◌≡◌, ◌⊎◌, List, [], ◌∷◌, ◌++◌, ℕ, ◌^◌, ◌≤◌, ◌<◌, length}
use Rattle.outcomes.specs.Decided.{Check, check}
use Rattle.outcomes.specs.declared.Refusal.TheVariants.{Extent, Letter}
use Rattle.sheet.specs.ReadingChecks.{inputs_of}
use Rattle.circular.specs.SheetChecks.{sheet_checks}

-- each letter in its turn: it isn't below 2 ^ m
unfoldable pub letter_checks : ℕ → List ℕ → List Check
letter_checks m [] = []
letter_checks m (l ∷ ls) = check Letter (2 ^ m ≤ l) ∷ letter_checks m ls

-- N is 0 or over 4,096, or the buffer, of `room` bytes, is under N; then the letters
abbrev pub run_checks : ℕ → List ℕ → ℕ → List Check
run_checks m letters room =
    check Extent ((length letters ≡ 0) ⊎ ((4096 < length letters) ⊎ (room < length letters))) ∷ letter_checks m letters

-- all checks of evaluation
abbrev pub evaluation_checks : List ℕ → List ℕ → ℕ → List Check
evaluation_checks bs letters room = sheet_checks bs ++ run_checks (inputs_of bs) letters room
