-- The exported functions of a journal: a set from masks, the slices' sizes, the mark for closed, byte 6 of an accepted sheet, and what an outcome leaves.
use mathlib.Core.Bool.{Bool, true, false, not}
use mathlib.Core.Path.{◌≡◌, refl, sym, ap, ◌∙◌, subst}
use mathlib.Core.Logic.{inl, inr}
use mathlib.Core.List.{List, [], ◌∷◌, ◌++◌}
use Prim.Native.Nat.{ℕ, ◌≤◌, ◌<◌}
use native.Mathlib.Omega.{arith}
use native.Mathlib.Decide.{dec_lt}
use lib.ListN.{length}
use lib.Seq.{paste, length-paste}
use borrow.Author.Tests.{not-true, lt-ltb}
use Rattle.outcomes.specs.Numbers.{refusal_no, outcome_no, verdict_no}
use Rattle.outcomes.specs.Decided.{Check, check, Decided}
use Rattle.outcomes.specs.declared.Refusal.{Refusal}
use Rattle.outcomes.specs.declared.Refusal.TheVariants.{Record}
use Rattle.outcomes.specs.Outcome.{Outcome, unbroken}
use Rattle.std.specs.Prelude.{Ok, Err}
use Rattle.outcomes.proofs.Decisions.{all-passed, decided_behind, passed-both}
use Rattle.sheet.specs.RuleSheet.{RuleSheet}
use Rattle.sheet.specs.ReadingChecks.{outputs_of, reading_checks}
use Rattle.sheet.proofs.Formed.{counts_of, read_formed}
use Rattle.circular.specs.SheetChecks.{OfSheet, sheet_checks}
use Rattle.record.specs.Record.{record_ok}
use Rattle.record.specs.declared.JournalRecord.{JournalRecord}
use Rattle.letters.specs.Sets.{MasksCall}
use Rattle.checks.specs.JournalChecks.{too_short}
use Rattle.slices.specs.Slices.{record_of, marked, numbers_of, verdict_numbers, sized}
use Rattle.slices.specs.Loaded.{loaded}
use Rattle.slices.proofs.SliceLaws.{Sizes, right-sizes, loaded-right, loaded_wrong}
use Rattle.effects.specs.declared.RoundAnswer.{RoundAnswer}
use Rattle.effects.specs.declared.ClosingAnswer.{ClosingAnswer}
use Rattle.monitor.specs.Entries.{Rounds, RoundCall, CloseCall}
use Rattle.queries.specs.Together.{TogetherCall}
use Rattle.queries.specs.declared.TogetherAnswer.{TogetherAnswer}
use Rattle.jigwaret.specs.Numbered.{LettersAs}
use Rattle.jigwaret.specs.Journal.{Slices, slices, SlicesAfter, mark_checks, MarkRefused, ByMark, RoundNumbered, ClosingNumbered, TogetherNumbered, BySizes}

-- ---- a set from masks

module _ (m known val old : ℕ) where
  pub set-kept : (e : Refusal) (r : ℕ) → MasksCall m known val (Err e) → r ≡ refusal_no e → LettersAs m known val old old r
  set-kept e r d n = record { outcome = Err e; decided = d.decided; number = n; written = refl }

  pub set-written : (w : ℕ) → MasksCall m known val (Ok w) → LettersAs m known val old w 0
  set-written w d = record { outcome = unbroken; decided = d.decided; number = refl; written = d.result }

-- ---- sizes

pub sizes_wrong : (Done : Type 0) (s rec ans : List ℕ) (r : Bool) → r ≡ sized rec ans → not r ≡ true → BySizes (sized rec ans) Done s s (slices rec rec ans ans) 255
sizes_wrong Done s rec ans r e h = subst (λ (b : Bool). BySizes b Done s s (slices rec rec ans ans) 255) (sym (not-true r h) ∙ e) (refl, refl, refl, refl)

pub sizes-right : (Done : Type 0) (s t : List ℕ) (z : Slices) (r : ℕ) → Sizes z.rec z.ans → Done → BySizes (sized z.rec z.ans) Done s t z r
sizes-right Done s t z r w d = subst (λ (b : Bool). BySizes b Done s t z r) (sym (right-sizes z.rec z.ans w.thirty w.sixteen)) d

-- ---- by the outcome

pub written : (new answer : List ℕ) (z : Slices) (o : Outcome) → o ≡ unbroken → z.rec' ≡ new → z.ans' ≡ answer → SlicesAfter new answer z o
written new answer z o e p q = subst (SlicesAfter new answer z) (sym e) (p, q)

pub not_written : (new answer : List ℕ) (z : Slices) (o : Outcome) (r : Refusal) → o ≡ Err r → z.rec' ≡ z.rec → z.ans' ≡ z.ans → SlicesAfter new answer z o
not_written new answer z o r e p q = subst (SlicesAfter new answer z) (sym e) (p, q)

pub number_of : (o : Outcome) (r : Refusal) (n : ℕ) → o ≡ Err r → n ≡ refusal_no r → n ≡ outcome_no o
number_of o r n e f = f ∙ sym (ap outcome_no e)

-- ---- verdicts at the front of an answer, and shares behind them

pub front_size : (n : ℕ) (old new vs : List ℕ) → n ≤ length old → n ≤ length vs → new ≡ paste old 0 vs n → length new ≡ length old
front_size n old new vs h l e = rw e (length-paste old 0 vs n (omega arith) l)

pub put_behind : (n : ℕ) (old front new vs xs : List ℕ) → front ≡ paste old 0 vs n → new ≡ paste front n xs n → new ≡ paste (paste old 0 vs n) n xs n
put_behind n old front new vs xs e f = rw (sym e) f

-- ---- by the mark

module _ (bs s t : List ℕ) (z : Slices) (r : ℕ) where
  -- a record that is refused whatever else is handed over
  mark-refused : (P : Type 0) (rest : List Check) (o : Outcome) (new answer : List ℕ) → Decided (sheet_checks bs ++ (too_short (length s) ∷ (check Record P ∷ rest))) o → P → r ≡ outcome_no o
      → ((e : Refusal) → o ≡ Err e → t ≡ s) → SlicesAfter new answer z o → MarkRefused bs s t z r
  mark-refused P rest o new answer d p n f w =
      let e : Decided (mark_checks bs (length s)) o = decided_behind (sheet_checks bs) (too_short (length s) ∷ (check Record P ∷ rest)) (too_short (length s) ∷ (check Record (Unit {0}) ∷ [])) o stop d in
      record { outcome = o; decided = e; number = n; kept = kept o e f w }
    where
      stop : Decided (too_short (length s) ∷ (check Record P ∷ rest)) o → Decided (too_short (length s) ∷ (check Record (Unit {0}) ∷ [])) o
      stop (inl h) = inl h
      stop (inr (h, inl g)) = inr (h, inl (tt, g.1))
      stop (inr (h, inr g)) = absurd (g.0 p)

      kept : (o : Outcome) → Decided (mark_checks bs (length s)) o → ((e : Refusal) → o ≡ Err e → t ≡ s) → SlicesAfter new answer z o → (t ≡ s) × (z.rec' ≡ z.rec) × (z.ans' ≡ z.ans)
      kept (Ok _) e f w = absurd ((all-passed (too_short (length s) ∷ (check Record (Unit {0}) ∷ [])) (passed-both (sheet_checks bs) _ e).1).1.0 tt)
      kept (Err q) e f w = (f q refl, w.0, w.1)

  -- by the mark: the record is what the numbers hold, or refused
  by-mark : (Done : Type 0) (rest : List Check) (o : Outcome) (new answer : List ℕ) → (loaded z.rec ≡ record_of z.rec → Done)
      → Decided (sheet_checks bs ++ (too_short (length s) ∷ (check Record (record_ok (outputs_of bs) (loaded z.rec) ≡ false) ∷ rest))) o → r ≡ outcome_no o
      → ((e : Refusal) → o ≡ Err e → t ≡ s) → SlicesAfter new answer z o → ByMark (marked z.rec) Done (MarkRefused bs s t z r)
  by-mark Done rest o new answer f d n k w = go (marked z.rec) refl
    where
      go : (b : Bool) → marked z.rec ≡ b → ByMark b Done (MarkRefused bs s t z r)
      go true e = f (loaded-right z.rec e)
      go false e = mark-refused _ rest o new answer d (loaded_wrong (outputs_of bs) z.rec e) n k w

  pub round-by-mark : (letters : ℕ) (a : RoundAnswer) → RoundCall bs s t (loaded z.rec) letters a → r ≡ outcome_no a.outcome
      → SlicesAfter (numbers_of a.record) (paste z.ans 0 (verdict_numbers a.verdicts (outputs_of bs)) (outputs_of bs)) z a.outcome
      → ByMark (marked z.rec) (RoundNumbered bs s t letters z r) (MarkRefused bs s t z r)
  round-by-mark letters a d n w =
      by-mark (RoundNumbered bs s t letters z r) _ a.outcome _ _
      (λ e. record { answer = a; result = subst (λ (q : JournalRecord). RoundCall bs s t q letters a) e d; number = n; written = w }) d.decided n
      (λ q f. (subst (Rounds bs s t (loaded z.rec) letters a) f d.result).0) w

module _ (bs s : List ℕ) (z : Slices) (r : ℕ) where
  pub closing-by-mark : (a : ClosingAnswer) → CloseCall bs s (loaded z.rec) a → r ≡ outcome_no a.outcome
      → SlicesAfter (numbers_of a.record) (paste (paste z.ans 0 (verdict_numbers a.verdicts (outputs_of bs)) (outputs_of bs)) (outputs_of bs) a.shares (outputs_of bs)) z a.outcome
      → ByMark (marked z.rec) (ClosingNumbered bs s z r) (MarkRefused bs s s z r)
  closing-by-mark a d n w =
      by-mark bs s s z r (ClosingNumbered bs s z r) _ a.outcome _ _
      (λ e. record { answer = a; result = subst (λ (q : JournalRecord). CloseCall bs s q a) e d; number = n; written = w }) d.decided n (λ q f. refl) w

  pub together-by-mark : (set : ℕ) (a : TogetherAnswer) → TogetherCall bs s (loaded z.rec) set a → r ≡ outcome_no a.outcome
      → SlicesAfter z.rec (paste z.ans 0 (verdict_no a.verdict ∷ []) 1) z a.outcome
      → ByMark (marked z.rec) (TogetherNumbered bs s set z r) (MarkRefused bs s s z r)
  together-by-mark set a d n w =
      by-mark bs s s z r (TogetherNumbered bs s set z r) _ a.outcome _ _
      (λ e. record { answer = a; result = subst (λ (q : JournalRecord). TogetherCall bs s q set a) e d; number = n; written = w }) d.decided n (λ q f. refl) w

-- ---- an accepted sheet has a byte 6, and it is at most 7

pub sheet-long : (bs : List ℕ) (cs : List Check) → Decided (sheet_checks bs ++ cs) unbroken → 8 ≤ length bs
unfolding reading_checks
sheet-long bs cs d = go (dec_lt (length bs) 8)
  where
    go : Dec (length bs < 8) → 8 ≤ length bs
    go (yes h) = absurd ((all-passed (sheet_checks bs) (passed-both (sheet_checks bs) cs d).0).0 (lt-ltb (length bs) 8 h))
    go (no h) = omega arith

pub few-outputs : (bs : List ℕ) (P : RuleSheet → Type 0) → OfSheet bs P → outputs_of bs ≤ 7
few-outputs bs P (x, e, p) = omega (arith, (counts_of bs x e).1, (read_formed bs x e).ranges.outputs)
