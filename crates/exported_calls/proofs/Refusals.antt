-- The first demand for callers in C and Rust: the entries' checks decide one outcome, and its number is what is returned.
use mathlib.Core.Path.{◌≡◌, refl, sym, ap, subst, ◌∙◌}
use mathlib.Core.Bool.{Bool, true, false}
use mathlib.Core.List.{List}
use Prim.Native.Nat.{ℕ, ◌<◌}
use native.Mathlib.Omega.{arith}
use lib.ListN.{length}
use Rattle.outcomes.specs.Numbers.{outcome_no}
use Rattle.outcomes.specs.Decided.{Check, Decided}
use Rattle.outcomes.specs.declared.Refusal.{Refusal}
use Rattle.outcomes.specs.Outcome.{Outcome}
use Rattle.std.specs.Prelude.{Ok, Err}
use Rattle.outcomes.proofs.Decisions.{decided_once}
use Rattle.circular.specs.SheetChecks.{sheet_checks}
use Rattle.trace.specs.EvaluationChecks.{evaluation_checks}
use Rattle.trace.specs.Evaluated.{Evaluated}
use Rattle.letters.specs.Sets.{mask_checks}
use Rattle.checks.specs.JournalChecks.{prepare_checks, round_checks, closing_checks, together_checks}
use Rattle.slices.specs.Slices.{record_of, marked, sized}
use Rattle.monitor.specs.Entries.{Prepares, Rounds}
use Rattle.claims.specs.Book.{Call, round, closing}
use Rattle.jigwaret.specs.Numbered.{LettersAfter}
use Rattle.jigwaret.specs.Journal.{Slices, slices, SlicesAfter, mark_checks, MarkRefused, ByMark, BySizes, PreparationNumbered, RoundNumbered, ClosingNumbered, RoundAs, ClosedAs}
use Rattle.exported_calls.specs.Calls.{HeldSlices, Reply, slices_of, ExportedStep, ExportedRefusals}

-- the storage and the two slices are what they were
abbrev Untouched : List ℕ → List ℕ → Slices → Type 0
Untouched s t z = (t ≡ s) × (z.rec' ≡ z.rec) × (z.ans' ≡ z.ans)

-- ---- one number

-- two outcomes that the same checks decide have one number
one_number : (cs : List Check) (o p : Outcome) (r q : ℕ) → Decided cs o → Decided cs p → r ≡ outcome_no o → q ≡ outcome_no p → r ≡ q
one_number cs o p r q d e f g = f ∙ ap outcome_no (decided_once cs o p d e) ∙ sym g

-- by the sizes and by the mark, which are those of the slices handed over
one_by_sizes : (b : Bool) (D E : Type 0) (s t u : List ℕ) (y z : Slices) (r q : ℕ) → (D → E → r ≡ q) → BySizes b D s t y r → BySizes b E s u z q → r ≡ q
one_by_sizes true D E s t u y z r q f d e = f d e
one_by_sizes false D E s t u y z r q f d e = d.0 ∙ sym e.0

one_by_mark : (b : Bool) (D E X Y : Type 0) (r q : ℕ) → (D → E → r ≡ q) → (X → Y → r ≡ q) → ByMark b D X → ByMark b E Y → r ≡ q
one_by_mark true D E X Y r q f g d e = f d e
one_by_mark false D E X Y r q f g d e = g d e

one_mark_refused : (bs s t u : List ℕ) (y z : Slices) (r q : ℕ) → MarkRefused bs s t y r → MarkRefused bs s u z q → r ≡ q
one_mark_refused bs s t u y z r q d e = one_number (mark_checks bs (length s)) d.outcome e.outcome r q d.decided e.decided d.number e.number

-- ---- what a refusal leaves

-- a number above 0 is a refusal's, which leaves the slices and what was lent
buffer_left : (bs ls old new : List ℕ) (o : Outcome) (r : ℕ) → r ≡ outcome_no o → 0 < r → Evaluated bs ls old new o → new ≡ old
buffer_left bs ls old new (Ok _) r n h d = absurd (omega arith)
buffer_left bs ls old new (Err e) r n h d = d

set-left : (m known val old new : ℕ) (o : Outcome) (r : ℕ) → r ≡ outcome_no o → 0 < r → LettersAfter m known val old new o → new ≡ old
set-left m known val old new (Ok _) r n h d = absurd (omega arith)
set-left m known val old new (Err e) r n h d = d

-- whatever an accepted call would have written
slices-left : (s t : List ℕ) (z : Slices) (r : ℕ) → 0 < r → (new answer : List ℕ) (o : Outcome) → r ≡ outcome_no o → ((e : Refusal) → o ≡ Err e → t ≡ s) → SlicesAfter new answer z o → Untouched s t z
slices-left s t z r h new answer (Ok _) k f w = absurd (omega arith)
slices-left s t z r h new answer (Err e) k f w = (f e refl, w.0, w.1)

module _ (bs s t : List ℕ) (z : Slices) (r : ℕ) (h : 0 < r) where
  preparation-left : PreparationNumbered bs s t z r → Untouched s t z
  preparation-left d = slices-left s t z r h _ _ d.answer.outcome d.number (λ e o. (subst (Prepares bs s t d.answer) o d.result.result).0) d.written

  round-left : (letters : ℕ) → RoundNumbered bs s t letters z r → Untouched s t z
  round-left letters d =
      slices-left s t z r h _ _ d.answer.outcome d.number (λ e o. (subst (Rounds bs s t (record_of z.rec) letters d.answer) o d.result.result).0) d.written

  closing-left : ClosingNumbered bs s z r → Untouched s s z
  closing-left d = slices-left s s z r h _ _ d.answer.outcome d.number (λ e o. refl) d.written

-- by the sizes and by the mark
left_by_sizes : (b : Bool) (D : Type 0) (s t : List ℕ) (z : Slices) (r : ℕ) → (D → Untouched s t z) → BySizes b D s t z r → Untouched s t z
left_by_sizes true D s t z r f d = f d
left_by_sizes false D s t z r f d = (d.1, d.2, d.3)

left_by_mark : (b : Bool) (D : Type 0) (bs s t : List ℕ) (z : Slices) (r : ℕ) → (D → Untouched s t z) → ByMark b D (MarkRefused bs s t z r) → Untouched s t z
left_by_mark true D bs s t z r f d = f d
left_by_mark false D bs s t z r f d = d.kept

-- ---- rounds and closings

module _ (bs s rec ans rec₁ ans₁ rec₂ ans₂ : List ℕ) (r q : ℕ) where
  one-round : (t u : List ℕ) (letters : ℕ) → RoundAs bs s t letters (slices rec rec₁ ans ans₁) r → RoundAs bs s u letters (slices rec rec₂ ans ans₂) q → r ≡ q
  one-round t u letters =
      one_by_sizes (sized rec ans) _ _ s t u (slices rec rec₁ ans ans₁) (slices rec rec₂ ans ans₂) r q
      (one_by_mark (marked rec) _ _ _ _ r q
      (λ d e. one_number (round_checks bs (length s) (record_of rec) letters) _ _ r q d.result.decided e.result.decided d.number e.number)
      (one_mark_refused bs s t u _ _ r q))

  one-closing : ClosedAs bs s (slices rec rec₁ ans ans₁) r → ClosedAs bs s (slices rec rec₂ ans ans₂) q → r ≡ q
  one-closing =
      one_by_sizes (sized rec ans) _ _ s s s (slices rec rec₁ ans ans₁) (slices rec rec₂ ans ans₂) r q
      (one_by_mark (marked rec) _ _ _ _ r q
      (λ d e. one_number (closing_checks bs (length s) (record_of rec)) _ _ r q d.result.decided e.result.decided d.number e.number)
      (one_mark_refused bs s s s _ _ r q))

one-call : (bs : List ℕ) (h k l : HeldSlices) (c : Call) (y z : Reply) → y.before ≡ z.before → ExportedStep bs h c y k → ExportedStep bs h c z l → y.number ≡ z.number
one-call bs h k l (round letters) y z e d f =
    one-round bs h.storage h.numbers z.before k.numbers y.after l.numbers z.after y.number z.number k.storage l.storage letters
    (subst (λ (a : List ℕ). RoundAs bs h.storage k.storage letters (slices h.numbers k.numbers a y.after) y.number) e d) f
one-call bs h k l closing y z e d f =
    one-closing bs h.storage h.numbers z.before k.numbers y.after l.numbers z.after y.number z.number
    (subst (λ (a : List ℕ). ClosedAs bs h.storage (slices h.numbers k.numbers a y.after) y.number) e d.1) f.1

call-left : (bs : List ℕ) (h k : HeldSlices) (c : Call) (y : Reply) → ExportedStep bs h c y k → 0 < y.number → Untouched h.storage k.storage (slices_of h y k)
call-left bs h k (round letters) y d p =
    let z : Slices = slices_of h y k in
    left_by_sizes (sized h.numbers y.before) _ h.storage k.storage z y.number
    (left_by_mark (marked h.numbers) _ bs h.storage k.storage z y.number (round-left bs h.storage k.storage z y.number p letters)) d
call-left bs h k closing y d p =
    let z : Slices = slices_of h y k in
    let e = left_by_sizes (sized h.numbers y.before) _ h.storage h.storage z y.number
    (left_by_mark (marked h.numbers) _ bs h.storage h.storage z y.number (closing-left bs h.storage h.storage z y.number p)) d.1 in
    (d.0, e.1, e.2)

-- ---- the demand

pub exported_refusals : ExportedRefusals
exported_refusals = record {
  check = λ bs r q d e. one_number (sheet_checks bs) d.outcome e.outcome r q d.decided e.decided d.number e.number;
  evaluation = λ bs ls old new other r q d e.
      one_number (evaluation_checks bs ls (length old)) d.outcome e.outcome r q d.call.decided e.call.decided d.number e.number;
  evaluation_refused = λ bs ls old new r d h. buffer_left bs ls old new d.outcome r d.number h d.call.result;
  letters = λ m known val old new other r q d e. one_number (mask_checks m known val) d.outcome e.outcome r q d.decided e.decided d.number e.number;
  letters_refused = λ m known val old new r d h. set-left m known val old new d.outcome r d.number h d.written;
  preparation = λ bs s t u rec ans rec₁ ans₁ rec₂ ans₂ r q.
      one_by_sizes (sized rec ans) _ _ s t u (slices rec rec₁ ans ans₁) (slices rec rec₂ ans ans₂) r q
      (λ d e. one_number (prepare_checks bs (length s)) _ _ r q d.result.decided e.result.decided d.number e.number);
  preparation_refused = λ bs s t z r d h. left_by_sizes (sized z.rec z.ans) _ s t z r (preparation-left bs s t z r h) d;
  call = one-call;
  call_refused = call-left;
  together = λ bs s rec ans ans₁ ans₂ set r q.
      one_by_sizes (sized rec ans) _ _ s s s (slices rec rec ans ans₁) (slices rec rec ans ans₂) r q
      (one_by_mark (marked rec) _ _ _ _ r q
      (λ d e. one_number (together_checks bs (length s) (record_of rec) set) _ _ r q d.result.decided e.result.decided d.number e.number)
      (one_mark_refused bs s s s _ _ r q));
  together_refused = λ bs s rec ans ans' set r d h.
      (left_by_sizes (sized rec ans) _ s s (slices rec rec ans ans') r
      (left_by_mark (marked rec) _ bs s s (slices rec rec ans ans') r (λ e. slices-left s s _ r h _ _ e.answer.outcome e.number (λ f o. refl) e.written)) d).2;
}
