-- What the exported functions give: the number of the outcome that the entry's definition has (01, "What is turned down"; 02, W4).
-- Manual: "Calling it".
use Rattle.std.specs.Prelude.{◌≡◌, List, ℕ, Ok, Err}
use Rattle.outcomes.specs.Numbers.{outcome_no}
use Rattle.outcomes.specs.Decided.{Decided}
use Rattle.outcomes.specs.Outcome.{Outcome}
use Rattle.circular.specs.SheetChecks.{sheet_checks}
use Rattle.trace.specs.Evaluated.{EvaluateCall}
use Rattle.letters.specs.Sets.{MaskSet, mask_checks}

-- the check of a sheet
pub record Checked (bs : List ℕ) (r : ℕ) : Type 0 where
  pub outcome : Outcome
  pub decided : Decided (sheet_checks bs) outcome
  pub number : r ≡ outcome_no outcome

-- evaluation
pub record EvaluatedAs (bs letters old new : List ℕ) (r : ℕ) : Type 0 where
  pub outcome : Outcome
  pub call : EvaluateCall bs letters old new outcome
  pub number : r ≡ outcome_no outcome

-- by the outcome: the set of the masks is written, or the number is as it was
abbrev pub LettersAfter : ℕ → ℕ → ℕ → ℕ → ℕ → Outcome → Type 0
LettersAfter m known val old new (Ok _) = MaskSet m known val new
LettersAfter m known val old new (Err e) = new ≡ old

-- a set from masks
pub record LettersAs (m known val old new r : ℕ) : Type 0 where
  pub outcome : Outcome
  pub decided : Decided (mask_checks m known val) outcome
  pub number : r ≡ outcome_no outcome
  pub written : LettersAfter m known val old new outcome
