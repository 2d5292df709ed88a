-- What the exported functions of preparation, rounds, closing and questions give and leave: what `prepare`, `round`, `close` and `together` do with the record
-- that the slice holds, its number, and for an accepted call the new record and the answer in their slices (01, "What is turned down"; 02, W4, W8 and W13).
-- Manual: "Calling it".
use Rattle.std.specs.Prelude.{◌≡◌, Bool, true, false, List, ◌∷◌, [], ◌++◌, ℕ, length, Ok, Err}
use Rattle.std.proofs.Math.Seq.{paste}
use Rattle.outcomes.specs.Numbers.{outcome_no, verdict_no}
use Rattle.outcomes.specs.Decided.{Check, check, Decided}
use Rattle.outcomes.specs.declared.Refusal.TheVariants.{Record}
use Rattle.outcomes.specs.Outcome.{Outcome}
use Rattle.sheet.specs.ReadingChecks.{outputs_of}
use Rattle.circular.specs.SheetChecks.{sheet_checks}
use Rattle.checks.specs.JournalChecks.{too_short}
use Rattle.slices.specs.Slices.{record_of, marked, numbers_of, verdict_numbers, sized}
use Rattle.effects.specs.declared.PrepareAnswer.{PrepareAnswer}
use Rattle.effects.specs.declared.RoundAnswer.{RoundAnswer}
use Rattle.effects.specs.declared.ClosingAnswer.{ClosingAnswer}
use Rattle.monitor.specs.Entries.{PrepareCall, RoundCall, CloseCall}
use Rattle.queries.specs.Together.{TogetherCall}
use Rattle.queries.specs.declared.TogetherAnswer.{TogetherAnswer}

-- the record's and the answer's slices before and after
pub record Slices : Type 0 where
  pub rec : List ℕ
  pub rec' : List ℕ
  pub ans : List ℕ
  pub ans' : List ℕ

-- by the outcome: the record and the answer are written, or both are as they were
abbrev pub SlicesAfter : List ℕ → List ℕ → Slices → Outcome → Type 0
SlicesAfter new answer z (Ok _) = (z.rec' ≡ new) × (z.ans' ≡ answer)
SlicesAfter new answer z (Err e) = (z.rec' ≡ z.rec) × (z.ans' ≡ z.ans)

-- 18 for a record whose mark for closed is neither 0 nor 1, behind the sheet's rules and 15
abbrev pub mark_checks : List ℕ → ℕ → List Check
mark_checks bs lent = sheet_checks bs ++ (too_short lent ∷ (check Record (Unit {0}) ∷ []))

-- a call with such a record, whatever else it is handed
pub record MarkRefused (bs s t : List ℕ) (z : Slices) (r : ℕ) : Type 0 where
  pub outcome : Outcome
  pub decided : Decided (mark_checks bs (length s)) outcome
  pub number : r ≡ outcome_no outcome
  pub kept : (t ≡ s) × (z.rec' ≡ z.rec) × (z.ans' ≡ z.ans)

-- by the mark
abbrev pub ByMark : Bool → Type 0 → Type 0 → Type 0
ByMark true Done Wrong = Done
ByMark false Done Wrong = Wrong

-- preparation: a fresh record, and the number of live pairs and their exact reach (02, W13)
pub record PreparationNumbered (bs s t : List ℕ) (z : Slices) (r : ℕ) : Type 0 where
  pub answer : PrepareAnswer
  pub result : PrepareCall bs s t answer
  pub number : r ≡ outcome_no answer.outcome
  pub written : SlicesAfter (numbers_of answer.record) (paste z.ans 0 (answer.live ∷ answer.reach ∷ []) 2) z answer.outcome

-- a round: the verdict numbers of the n outputs
pub record RoundNumbered (bs s t : List ℕ) (letters : ℕ) (z : Slices) (r : ℕ) : Type 0 where
  pub answer : RoundAnswer
  pub result : RoundCall bs s t (record_of z.rec) letters answer
  pub number : r ≡ outcome_no answer.outcome
  pub written : SlicesAfter (numbers_of answer.record) (paste z.ans 0 (verdict_numbers answer.verdicts (outputs_of bs)) (outputs_of bs)) z answer.outcome

-- a closing: those, and behind them the n shares
pub record ClosingNumbered (bs s : List ℕ) (z : Slices) (r : ℕ) : Type 0 where
  pub answer : ClosingAnswer
  pub result : CloseCall bs s (record_of z.rec) answer
  pub number : r ≡ outcome_no answer.outcome
  pub written : SlicesAfter (numbers_of answer.record) (paste (paste z.ans 0 (verdict_numbers answer.verdicts (outputs_of bs)) (outputs_of bs)) (outputs_of bs) answer.shares (outputs_of bs)) z answer.outcome

-- a question about a set of outputs: the number of the verdict on it (02, W8). The record is lent for reading, so it is what it was.
pub record TogetherNumbered (bs s : List ℕ) (set : ℕ) (z : Slices) (r : ℕ) : Type 0 where
  pub answer : TogetherAnswer
  pub result : TogetherCall bs s (record_of z.rec) set answer
  pub number : r ≡ outcome_no answer.outcome
  pub written : SlicesAfter z.rec (paste z.ans 0 (verdict_no answer.verdict ∷ []) 1) z answer.outcome

-- by the sizes of the slices: where they are wrong, 255, and nothing has altered
abbrev pub BySizes : Bool → Type 0 → List ℕ → List ℕ → Slices → ℕ → Type 0
BySizes true Done s t z r = Done
BySizes false Done s t z r = (r ≡ 255) × (t ≡ s) × (z.rec' ≡ z.rec) × (z.ans' ≡ z.ans)

abbrev pub slices : List ℕ → List ℕ → List ℕ → List ℕ → Slices
slices rec rec' ans ans' = record { rec = rec; rec' = rec'; ans = ans; ans' = ans' }

abbrev pub PreparedAs : List ℕ → List ℕ → List ℕ → Slices → ℕ → Type 0
PreparedAs bs s t z r = BySizes (sized z.rec z.ans) (PreparationNumbered bs s t z r) s t z r

abbrev pub RoundAs : List ℕ → List ℕ → List ℕ → ℕ → Slices → ℕ → Type 0
RoundAs bs s t letters z r =
    BySizes (sized z.rec z.ans) (ByMark (marked z.rec) (RoundNumbered bs s t letters z r) (MarkRefused bs s t z r)) s t z r

abbrev pub ClosedAs : List ℕ → List ℕ → Slices → ℕ → Type 0
ClosedAs bs s z r = BySizes (sized z.rec z.ans) (ByMark (marked z.rec) (ClosingNumbered bs s z r) (MarkRefused bs s s z r)) s s z r

abbrev pub TogetherAs : List ℕ → List ℕ → ℕ → Slices → ℕ → Type 0
TogetherAs bs s set z r = BySizes (sized z.rec z.ans) (ByMark (marked z.rec) (TogetherNumbered bs s set z r) (MarkRefused bs s s z r)) s s z r
