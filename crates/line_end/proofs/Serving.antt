-- What is held after a call is answered as the book answers it, too.
use mathlib.Core.Path.{◌≡◌, refl, sym, subst}
use mathlib.Core.Bool.{true, false}
use mathlib.Core.Logic.{inr}
use mathlib.Core.List.{List, [], ◌∷◌}
use Prim.Native.Nat.{ℕ, ◌≤◌}
use native.Mathlib.Omega.{arith}
use lib.ListN.{length}
use Rattle.outcomes.specs.Decided.{Decided}
use Rattle.outcomes.specs.Outcome.{Outcome, unbroken}
use Rattle.std.specs.Prelude.{Ok, Err}
use Rattle.outcomes.proofs.Decisions.{decided_once, decided-accepted, passed-both}
use Rattle.sheet.specs.RuleSheet.{RuleSheet}
use Rattle.sheet.specs.ReadingChecks.{outputs_of}
use Rattle.sheet.specs.Reading.{rule_sheet, when_accepted}
use Rattle.sheet.specs.declared.Sheet.{Sheet}
use Rattle.sheet.proofs.Formed.{one-sheet}
use Rattle.circular.specs.SheetChecks.{sheet_checks, AcceptedSheet}
use Rattle.circular.proofs.Accepted.{outputs-read}
use Rattle.record.specs.declared.JournalRecord.{JournalRecord}
use Rattle.pairs.specs.Storage.{storage_words}
use Rattle.checks.specs.JournalChecks.{too_short, closing_rules, prepare_checks, closing_checks}
use Rattle.checks.proofs.Checking.{closing_ready}
use Rattle.effects.specs.declared.PrepareAnswer.{PrepareAnswer}
use Rattle.effects.specs.declared.RoundAnswer.{RoundAnswer}
use Rattle.effects.specs.declared.ClosingAnswer.{ClosingAnswer}
use Rattle.monitor.specs.Entries.{PrepareCall, Rounds, RoundCall, Closes, CloseCall}
use Rattle.claims.specs.Book.{Call, round, closing, Answer, Book, empty_book, BookStep, BookRun}
use Rattle.claims.specs.Book as book
use Rattle.claims.specs.Session.{Held, held, round_says, closing_says, SessionStep, a_round, a_closing, Matches}
use Rattle.claims.specs.Session as session
use Rattle.claims.proofs.BookLaws.{step-unique}
use Rattle.claims.proofs.ThirdDemand.{third_demand}
use Rattle.circular.specs.Accepted.{IsAccepted}
use mathlib.Core.HLevel.{Unit-prop}
use Rattle.std.proofs.Math.Logic.{∥∥₁_elim}
use Rattle.std.proofs.Props.{props}
use Rattle.line_end.specs.LineEnd.{Serves, Answered}

-- ---- runs of the book

module _ (x : RuleSheet) where
  first : {b d : Book} {c : Call} {a : Answer} {cs : List Call} {as' : List Answer} → BookRun x b (c ∷ cs) (a ∷ as') d → (b₁ : Book) × BookStep x b c a b₁ × BookRun x b₁ cs as' d
  first (book.next {b₁ = m} s r) = (m, s, r)

  none-left-over : {b d : Book} → BookRun x b [] [] d → d ≡ b
  none-left-over book.finish = refl

module _ (sheet : List ℕ) (x : RuleSheet) (b : Book) (h : Held) (sv : Serves sheet x b h) where
  -- the record is the book's
  pub serves-matches : Matches x b h.record
  serves-matches = let w = sv [] [] h session.finish in subst (λ (z : Book). Matches x z h.record) (none-left-over x w.1) w.2

  -- one call
  pub serves-step : (k : Held) (c : Call) (a : Answer) → SessionStep sheet h c a k → Answered sheet x b c a k
  serves-step k c a s =
      let o = first x (sv (c ∷ []) (a ∷ []) k (session.next s session.finish)).1 in
      record {
        book = o.0;
        step = o.1;
        serves = λ cs as' m ss.
            let w = sv (c ∷ cs) (a ∷ as') m (session.next s ss) in
            let f = first x w.1 in
            (w.0, subst (λ (z : Book). BookRun x z cs as' w.0) (step-unique x b f.1 o.1).1 f.2, w.2);
      }

-- ---- the monitor's calls as calls of a session

module _ (sheet : List ℕ) (x : Sheet) (o : AcceptedSheet sheet x) where
  same-outputs : outputs_of sheet ≡ x.outputs
  same-outputs = sym (outputs-read sheet x o)

  pub round-step : (s t : List ℕ) (r : JournalRecord) (letters : ℕ) (a : RoundAnswer) → RoundCall sheet s t r letters a
      → SessionStep sheet (held s r) (round letters) (round_says x.outputs a a.outcome) (held t a.record)
  round-step s t r letters a d = subst (λ (n : ℕ). SessionStep sheet (held s r) (round letters) (round_says n a a.outcome) (held t a.record)) same-outputs (a_round a d)

  pub closing-step : (s : List ℕ) (r : JournalRecord) (a : ClosingAnswer) → CloseCall sheet s r a
      → SessionStep sheet (held s r) closing (closing_says x.outputs a a.outcome) (held s a.record)
  closing-step s r a d = subst (λ (n : ℕ). SessionStep sheet (held s r) closing (closing_says n a a.outcome) (held s a.record)) same-outputs (a_closing a d)

  -- storage that was prepared
  pub serves-prepared : (s t : List ℕ) (p : PrepareAnswer) → storage_words ≤ length s → PrepareCall sheet s t p → Serves sheet (rule_sheet x) empty_book (held t p.record)
  serves-prepared s t p l d cs as' k ss =
      let fits : Decided (prepare_checks sheet (length s)) unbroken = decided-accepted (sheet_checks sheet) (too_short (length s) ∷ []) unbroken o.decided (inr ((λ h. omega arith), refl)) in
      let e : p.outcome ≡ unbroken = decided_once (prepare_checks sheet (length s)) p.outcome unbroken d.decided fits in
      let z = third_demand sheet s t p d e cs as' k ss in
      subst (λ (y : RuleSheet). (b : Book) × BookRun y empty_book cs as' b × Matches y b k.record) (one-sheet sheet z.0 (rule_sheet x) z.1 o.reads) z.2

-- ---- what an accepted answer says

pub round-kept : (sheet s t : List ℕ) (r : JournalRecord) (letters : ℕ) (a : RoundAnswer) → RoundCall sheet s t r letters a
    → when_accepted a.outcome (a.record.closed ≡ r.closed)
round-kept sheet s t r letters a d = go a.outcome d.result
  where
    go : (o : Outcome) → Rounds sheet s t r letters a o → when_accepted o (a.record.closed ≡ r.closed)
    go (Ok _) w = w.2.closed
    go (Err e) w = tt

-- a closing that is accepted found the journal open
pub closing-kept : (sheet s : List ℕ) (r : JournalRecord) (a : ClosingAnswer) → CloseCall sheet s r a
    → when_accepted a.outcome ((r.closed ≡ false) × (a.record.closed ≡ true) × (a.record.counts ≡ r.counts) × (length a.shares ≡ 7))
closing-kept sheet s r a d = go a.outcome d.decided d.result
  where
    go : (o : Outcome) → Decided (closing_checks sheet (length s) r) o → Closes sheet s r a o
        → when_accepted o ((r.closed ≡ false) × (a.record.closed ≡ true) × (a.record.counts ≡ r.counts) × (length a.shares ≡ 7))
    go (Ok _) h w =
        let y = closing_ready (outputs_of sheet) (length s) r (passed-both (sheet_checks sheet) (closing_rules (outputs_of sheet) (length s) r) h).1 in
        (y.shut, w.2.closed, w.2.counts, w.2.shares.size)
    go (Err e) h w = tt

-- ---- and with a sheet that some bytes were accepted as

when_prop : (o : Outcome) {X : Type 0} → IsProp X → IsProp (when_accepted o X)
when_prop (Ok _) p = p
when_prop (Err e) p = Unit-prop

module _ (x : Sheet) (accepted : ∥ IsAccepted x ∥₁) (s : List ℕ) (r : JournalRecord) where
  pub accepted-round : (t : List ℕ) (letters : ℕ) (a : RoundAnswer) → ((bs : List ℕ) → AcceptedSheet bs x → RoundCall bs s t r letters a)
      → when_accepted a.outcome (a.record.closed ≡ r.closed)
  accepted-round t letters a f =
      ∥∥₁_elim accepted (when_prop a.outcome (hlevel props)) (λ y. round-kept y.0 s t r letters a (f y.0 y.1))

  pub accepted-closing : (a : ClosingAnswer) → ((bs : List ℕ) → AcceptedSheet bs x → CloseCall bs s r a)
      → when_accepted a.outcome ((r.closed ≡ false) × (a.record.closed ≡ true) × (a.record.counts ≡ r.counts) × (length a.shares ≡ 7))
  accepted-closing a f = ∥∥₁_elim accepted (when_prop a.outcome (hlevel props)) (λ y. closing-kept y.0 s r a (f y.0 y.1))
