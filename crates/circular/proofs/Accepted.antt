-- An accepted sheet: its counts are those of its bytes, and the checks behind its own decide.
use mathlib.Core.Path.{◌≡◌, sym, ◌∙◌}
use mathlib.Core.List.{List, ◌++◌}
use Prim.Native.Nat.{ℕ}
use Rattle.outcomes.specs.Decided.{Check, Decided}
use Rattle.outcomes.specs.Outcome.{Outcome}
use Rattle.outcomes.proofs.Decisions.{decided-accepted}
use Rattle.sheet.specs.ReadingChecks.{inputs_of, outputs_of}
use Rattle.sheet.specs.Reading.{rule_sheet}
use Rattle.sheet.specs.declared.Sheet.{Sheet}
use Rattle.sheet.proofs.Formed.{counts_of}
use Rattle.sheet.proofs.Sheets.{sheet-outputs}
use Rattle.circular.specs.SheetChecks.{sheet_checks, AcceptedSheet}

module _ (bs : List ℕ) (x : Sheet) (ok : AcceptedSheet bs x) where
  pub inputs_read : x.inputs ≡ inputs_of bs
  inputs_read = (counts_of bs (rule_sheet x) ok.reads).0

  pub outputs-read : x.outputs ≡ outputs_of bs
  outputs-read = sym (sheet-outputs x) ∙ (counts_of bs (rule_sheet x) ok.reads).1

  pub behind-sheet : (cs : List Check) (o : Outcome) → Decided cs o → Decided (sheet_checks bs ++ cs) o
  behind-sheet cs o d = decided-accepted (sheet_checks bs) cs o ok.decided d
