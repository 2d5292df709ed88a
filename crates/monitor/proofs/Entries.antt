-- From the parts of a call to its definition: the sheet's checks, then the call's, then what is done.
use mathlib.Core.Path.{◌≡◌, refl, sym, subst}
use mathlib.Core.List.{List, [], ◌∷◌}
use Prim.Native.Nat.{ℕ}
use lib.ListN.{length, replicate}
use Rattle.outcomes.specs.Numbers.{untold}
use Rattle.outcomes.specs.Decided.{Decided}
use Rattle.outcomes.specs.declared.Refusal.{Refusal}
use Rattle.outcomes.specs.declared.Refusal.TheVariants.{Storage}
use Rattle.outcomes.specs.Outcome.{Outcome, unbroken}
use Rattle.std.specs.Prelude.{Err}
use Rattle.outcomes.proofs.Decisions.{decided-refused}
use Rattle.sheet.specs.ReadingChecks.{inputs_of, outputs_of}
use Rattle.sheet.specs.Reading.{rule_sheet}
use Rattle.sheet.specs.declared.Sheet.{Sheet}
use Rattle.circular.specs.SheetChecks.{sheet_checks, AcceptedSheet}
use Rattle.circular.proofs.Accepted.{inputs_read, outputs-read, behind-sheet}
use Rattle.record.specs.Record.{Fresh}
use Rattle.record.specs.declared.JournalRecord.{JournalRecord}
use Rattle.completions.specs.Completion.{members}
use Rattle.checks.specs.JournalChecks.{too_short, round_rules, closing_rules, prepare_checks, round_checks, closing_checks}
use Rattle.effects.specs.Results.{Prepared, RoundDone, ClosingDone}
use Rattle.effects.specs.declared.PrepareAnswer.{PrepareAnswer}
use Rattle.effects.specs.declared.RoundAnswer.{RoundAnswer}
use Rattle.effects.specs.declared.ClosingAnswer.{ClosingAnswer}
use Rattle.monitor.specs.Entries.{Prepares, PrepareCall, Rounds, RoundCall, Closes, CloseCall}

-- ---- the checks

module _ (bs : List ℕ) (x : Sheet) (ok : AcceptedSheet bs x) where
  round-checks : (lent : ℕ) (r : JournalRecord) (letters : ℕ) (o : Outcome) → Decided (round_rules x.inputs x.outputs lent r letters) o → Decided (round_checks bs lent r letters) o
  round-checks lent r letters o d = behind-sheet bs x ok (round_rules (inputs_of bs) (outputs_of bs) lent r letters) o (rw (← inputs_read bs x ok, ← outputs-read bs x ok) d)

  closing-checks : (lent : ℕ) (r : JournalRecord) (o : Outcome) → Decided (closing_rules x.outputs lent r) o → Decided (closing_checks bs lent r) o
  closing-checks lent r o d = behind-sheet bs x ok (closing_rules (outputs_of bs) lent r) o (rw (← outputs-read bs x ok) d)

-- ---- calls that are refused, by any of their checks

pub prepare_refused : (bs s : List ℕ) (a : PrepareAnswer) (e : Refusal) → (a.outcome ≡ Err e) × Fresh a.record × (a.live ≡ 0) × (a.reach ≡ 0)
    → Decided (prepare_checks bs (length s)) (Err e) → PrepareCall bs s s a
prepare_refused bs s a e p d = record { decided = rw p.0 d; result = subst (Prepares bs s s a) (sym p.0) (refl, p.1, p.2, p.3) }

pub round_refused : (bs s : List ℕ) (r : JournalRecord) (letters : ℕ) (a : RoundAnswer) (e : Refusal) → (a.outcome ≡ Err e) × (a.record ≡ r) × (a.verdicts ≡ replicate 7 untold)
    → Decided (round_checks bs (length s) r letters) (Err e) → RoundCall bs s s r letters a
round_refused bs s r letters a e p d = record { decided = rw p.0 d; result = subst (Rounds bs s s r letters a) (sym p.0) (refl, p.1, p.2) }

pub closing_refused : (bs s : List ℕ) (r : JournalRecord) (a : ClosingAnswer) (e : Refusal) → (a.outcome ≡ Err e) × (a.record ≡ r) × (a.verdicts ≡ replicate 7 untold) × (a.shares ≡ replicate 7 0)
    → Decided (closing_checks bs (length s) r) (Err e) → CloseCall bs s r a
closing_refused bs s r a e p d = record { decided = rw p.0 d; result = subst (Closes bs s r a) (sym p.0) (p.1, p.2, p.3) }

-- by one of the sheet's own
pub prepare_unread : (bs : List ℕ) (lent : ℕ) (e : Refusal) → Decided (sheet_checks bs) (Err e) → Decided (prepare_checks bs lent) (Err e)
prepare_unread bs lent e d = decided-refused (sheet_checks bs) (too_short lent ∷ []) e d

pub round-unread : (bs : List ℕ) (lent : ℕ) (r : JournalRecord) (letters : ℕ) (e : Refusal) → Decided (sheet_checks bs) (Err e) → Decided (round_checks bs lent r letters) (Err e)
round-unread bs lent r letters e d = decided-refused (sheet_checks bs) (round_rules (inputs_of bs) (outputs_of bs) lent r letters) e d

pub closing-unread : (bs : List ℕ) (lent : ℕ) (r : JournalRecord) (e : Refusal) → Decided (sheet_checks bs) (Err e) → Decided (closing_checks bs lent r) (Err e)
closing-unread bs lent r e d = decided-refused (sheet_checks bs) (closing_rules (outputs_of bs) lent r) e d

-- ---- calls with a sheet that is accepted

module _ (bs : List ℕ) (x : Sheet) (ok : AcceptedSheet bs x) where
  pub too_short_lem : (s : List ℕ) (a : PrepareAnswer) → (a.outcome ≡ Err Storage) × Fresh a.record × (a.live ≡ 0) × (a.reach ≡ 0) → Decided (too_short (length s) ∷ []) (Err Storage) → PrepareCall bs s s a
  too_short_lem s a p d = prepare_refused bs s a Storage p (behind-sheet bs x ok (too_short (length s) ∷ []) (Err Storage) d)

  pub prepare-done : (s t : List ℕ) (a : PrepareAnswer) → a.outcome ≡ unbroken → Decided (too_short (length s) ∷ []) unbroken → Prepared (rule_sheet x) s t a → PrepareCall bs s t a
  prepare-done s t a e d p = record {
    decided = rw e (behind-sheet bs x ok (too_short (length s) ∷ []) unbroken d);
    result = subst (Prepares bs s t a) (sym e) (rule_sheet x, ok.reads, p);
  }

  module _ (r : JournalRecord) (letters : ℕ) where
    pub round-turned-down : (s : List ℕ) (a : RoundAnswer) (e : Refusal) → (a.outcome ≡ Err e) × (a.record ≡ r) × (a.verdicts ≡ replicate 7 untold)
        → Decided (round_rules x.inputs x.outputs (length s) r letters) (Err e) → RoundCall bs s s r letters a
    round-turned-down s a e p d = round_refused bs s r letters a e p (round-checks bs x ok (length s) r letters (Err e) d)

    pub round-done : (s t : List ℕ) (a : RoundAnswer) → a.outcome ≡ unbroken
        → Decided (round_rules x.inputs x.outputs (length s) r letters) unbroken → RoundDone (rule_sheet x) s t r (members letters) a → RoundCall bs s t r letters a
    round-done s t a e d p = record {
      decided = rw e (round-checks bs x ok (length s) r letters unbroken d);
      result = subst (Rounds bs s t r letters a) (sym e) (rule_sheet x, ok.reads, p);
    }

  pub closing-turned-down : (r : JournalRecord) (s : List ℕ) (a : ClosingAnswer) (e : Refusal) → (a.outcome ≡ Err e) × (a.record ≡ r) × (a.verdicts ≡ replicate 7 untold) × (a.shares ≡ replicate 7 0)
      → Decided (closing_rules x.outputs (length s) r) (Err e) → CloseCall bs s r a
  closing-turned-down r s a e p d = closing_refused bs s r a e p (closing-checks bs x ok (length s) r (Err e) d)

  pub closing-done : (r : JournalRecord) (s : List ℕ) (a : ClosingAnswer) → a.outcome ≡ unbroken → Decided (closing_rules x.outputs (length s) r) unbroken → ClosingDone (rule_sheet x) s r a → CloseCall bs s r a
  closing-done r s a e d p = record {
    decided = rw e (closing-checks bs x ok (length s) r unbroken d);
    result = subst (Closes bs s r a) (sym e) (rule_sheet x, ok.reads, p);
  }
