-- From the parts of a question about a set of outputs to its definition: the sheet's checks, then the question's, then the verdict.
use mathlib.Core.Path.{◌≡◌, sym, ap, ap₂, subst, ◌∙◌}
use mathlib.Core.Bool.{Bool}
use mathlib.Core.List.{List}
use Prim.Native.Nat.{ℕ, ◌+◌, ◌^◌}
use lib.ListN.{length}
use Rattle.outcomes.specs.Decided.{Decided}
use Rattle.outcomes.specs.declared.Refusal.{Refusal}
use Rattle.outcomes.specs.Outcome.{Outcome, unbroken}
use Rattle.std.specs.Prelude.{Err}
use Rattle.outcomes.specs.declared.Verdict.{Verdict}
use Rattle.outcomes.specs.declared.Verdict.TheVariants.{False}
use Rattle.outcomes.proofs.Decisions.{decided-refused}
use Rattle.sheet.specs.ReadingChecks.{outputs_of}
use Rattle.sheet.specs.Reading.{rule_sheet}
use Rattle.sheet.specs.declared.Sheet.{Sheet}
use Rattle.sheet.proofs.Sheets.{sheet-outputs}
use Rattle.circular.specs.SheetChecks.{sheet_checks, AcceptedSheet}
use Rattle.circular.proofs.Accepted.{outputs-read, behind-sheet}
use Rattle.record.specs.declared.JournalRecord.{JournalRecord}
use Rattle.completions.specs.Steps.{pairs_verdict}
use Rattle.completions.specs.Together.{named, together}
use Rattle.pairs.specs.Storage.{reached}
use Rattle.verdicts.specs.Firsts.{all_named}
use Rattle.checks.specs.JournalChecks.{together_rules, together_checks}
use Rattle.effects.proofs.Rounding.{sheet-width}
use Rattle.queries.specs.Together.{Answers, TogetherCall}
use Rattle.queries.specs.declared.TogetherAnswer.{TogetherAnswer}

-- refused by any check
pub refused-call : (bs s : List ℕ) (r : JournalRecord) (set : ℕ) (a : TogetherAnswer) (e : Refusal) → (a.outcome ≡ Err e) × (a.verdict ≡ False)
    → Decided (together_checks bs (length s) r set) (Err e) → TogetherCall bs s r set a
refused-call bs s r set a e p d = record { decided = rw p.0 d; result = subst (Answers bs s set a) (sym p.0) p.1 }

-- by one of the sheet's own
pub unread : (bs : List ℕ) (lent : ℕ) (r : JournalRecord) (set : ℕ) (e : Refusal) → Decided (sheet_checks bs) (Err e) → Decided (together_checks bs lent r set) (Err e)
unread bs lent r set e d = decided-refused (sheet_checks bs) (together_rules (outputs_of bs) lent r set) e d

module _ (bs : List ℕ) (x : Sheet) (ok : AcceptedSheet bs x) (s : List ℕ) (r : JournalRecord) (set : ℕ) where
  own-checks : (o : Outcome) → Decided (together_rules x.outputs (length s) r set) o → Decided (together_checks bs (length s) r set) o
  own-checks o d = behind-sheet bs x ok (together_rules (outputs_of bs) (length s) r set) o (rw (← outputs-read bs x ok) d)

  pub turned_down : (a : TogetherAnswer) (e : Refusal) → (a.outcome ≡ Err e) × (a.verdict ≡ False)
      → Decided (together_rules x.outputs (length s) r set) (Err e) → TogetherCall bs s r set a
  turned_down a e p d = refused-call bs s r set a e p (own-checks (Err e) d)

  -- the words' test is that of the set
  same_test : all_named x.inputs x.outputs set ≡ together (rule_sheet x) (named set)
  unfolding all_named together
  same_test = ap (λ (n : ℕ). all_named x.inputs n set) (sym (sheet-outputs x))

  pub answered : (v : Verdict) → Decided (together_rules x.outputs (length s) r set) unbroken
      → v ≡ pairs_verdict (2 ^ (x.inputs + x.outputs)) (reached s) (all_named x.inputs x.outputs set) → TogetherCall bs s r set (record { outcome = unbroken; verdict = v })
  answered v d e = record {
    decided = own-checks unbroken d;
    result = (rule_sheet x, ok.reads, e ∙ ap₂ (λ (w : ℕ) (g : ℕ → Bool). pairs_verdict w (reached s) g) (sym (sheet-width x)) same_test);
  }
