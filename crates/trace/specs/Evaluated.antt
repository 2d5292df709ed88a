-- What evaluation leaves in the buffer (01, "Whole traces").
-- Manual: "The language".
use Rattle.std.specs.Prelude.{◌≡◌, List, ℕ, ◌^◌, ◌<◌, length, get_or, take, drop, Ok, Err}
use Rattle.std.proofs.Math.Option.{none}
use Rattle.outcomes.specs.Decided.{Decided}
use Rattle.outcomes.specs.Outcome.{Outcome}
use Rattle.sheet.specs.RuleSheet.{RuleSheet, outputs}
use Rattle.lola.specs.Equations.{Satisfies, joined}
use Rattle.circular.specs.SheetChecks.{OfSheet}
use Rattle.trace.specs.EvaluationChecks.{evaluation_checks}

-- For each of the N letters the byte whose bit k is output k: no bit beyond the outputs is set, and the valuations that letters and
-- bytes make satisfy all equations, nothing before the first and nothing after the last. Bytes after the first N keep their contents.
pub record OutputsWritten (x : RuleSheet) (letters old new : List ℕ) : Type 0 where
  pub same_length : length new ≡ length old
  pub rest : drop (length letters) new ≡ drop (length letters) old
  pub bytes : (i : ℕ) → i < length letters → get_or new i 0 < 2 ^ outputs x
  pub satisfies : Satisfies x none (joined x.inputs letters (take (length letters) new))

-- accepted: the bytes by the sheet that was read; a refusal leaves the buffer that was handed in
abbrev pub Evaluated : List ℕ → List ℕ → List ℕ → List ℕ → Outcome → Type 0
Evaluated bs letters old new (Ok _) = OfSheet bs (λ x. OutputsWritten x letters old new)
Evaluated bs letters old new (Err r) = new ≡ old

-- what a call of evaluation means: its outcome, and the buffer before and after it
pub record EvaluateCall (bs letters old new : List ℕ) (o : Outcome) : Type 0 where
  pub decided : Decided (evaluation_checks bs letters (length old)) o
  pub result : Evaluated bs letters old new o
