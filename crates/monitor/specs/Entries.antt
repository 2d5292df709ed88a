-- What a call of each entry means (01, "Completions and verdicts", each entry's definition; "What is turned down"; 02, W4 and W13): how it is decided, and by
-- the outcome what is done, or that nothing but the refusal is given and what was lent or handed in has not altered.
-- Manual: "Refusals".
use Rattle.std.specs.Prelude.{◌≡◌, List, ℕ, length, replicate, Ok, Err}
use Rattle.outcomes.specs.Numbers.{untold}
use Rattle.outcomes.specs.Decided.{Decided}
use Rattle.outcomes.specs.Outcome.{Outcome}
use Rattle.circular.specs.SheetChecks.{OfSheet}
use Rattle.record.specs.Record.{Fresh}
use Rattle.record.specs.declared.JournalRecord.{JournalRecord}
use Rattle.completions.specs.Completion.{members}
use Rattle.checks.specs.JournalChecks.{prepare_checks, round_checks, closing_checks}
use Rattle.effects.specs.Results.{Prepared, RoundDone, ClosingDone}
use Rattle.effects.specs.declared.PrepareAnswer.{PrepareAnswer}
use Rattle.effects.specs.declared.RoundAnswer.{RoundAnswer}
use Rattle.effects.specs.declared.ClosingAnswer.{ClosingAnswer}

-- preparation with the sheet bs: the storage s before, t after, and the answer
abbrev pub Prepares : List ℕ → List ℕ → List ℕ → PrepareAnswer → Outcome → Type 0
Prepares bs s t a (Ok _) = OfSheet bs (λ x. Prepared x s t a)
Prepares bs s t a (Err e) = (t ≡ s) × Fresh a.record × (a.live ≡ 0) × (a.reach ≡ 0)

pub record PrepareCall (bs s t : List ℕ) (a : PrepareAnswer) : Type 0 where
  pub decided : Decided (prepare_checks bs (length s)) a.outcome
  pub result : Prepares bs s t a a.outcome

-- a round with the record r and its set of letters
abbrev pub Rounds : List ℕ → List ℕ → List ℕ → JournalRecord → ℕ → RoundAnswer → Outcome → Type 0
Rounds bs s t r letters a (Ok _) = OfSheet bs (λ x. RoundDone x s t r (members letters) a)
Rounds bs s t r letters a (Err e) = (t ≡ s) × (a.record ≡ r) × (a.verdicts ≡ replicate 7 untold)

pub record RoundCall (bs s t : List ℕ) (r : JournalRecord) (letters : ℕ) (a : RoundAnswer) : Type 0 where
  pub decided : Decided (round_checks bs (length s) r letters) a.outcome
  pub result : Rounds bs s t r letters a a.outcome

-- a closing, which only reads the storage
abbrev pub Closes : List ℕ → List ℕ → JournalRecord → ClosingAnswer → Outcome → Type 0
Closes bs s r a (Ok _) = OfSheet bs (λ x. ClosingDone x s r a)
Closes bs s r a (Err e) = (a.record ≡ r) × (a.verdicts ≡ replicate 7 untold) × (a.shares ≡ replicate 7 0)

pub record CloseCall (bs s : List ℕ) (r : JournalRecord) (a : ClosingAnswer) : Type 0 where
  pub decided : Decided (closing_checks bs (length s) r) a.outcome
  pub result : Closes bs s r a a.outcome
