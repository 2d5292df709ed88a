-- The checks of a round and of a closing decide as the book does, once the sheet, the storage and the record are right.
use mathlib.Core.Path.{◌≡◌, refl, sym, ap, ◌∙◌}
use mathlib.Core.Bool.{Bool, true, false, cond, true≢false, false≢true}
use mathlib.Core.List.{List, [], ◌∷◌}
use mathlib.Core.Logic.{inl, inr}
use mathlib.Core.Option.{Option, none, some}
use Prim.Native.Nat.{ℕ, ◌≤◌, ◌<◌}
use native.Mathlib.Omega.{arith}
use lib.Dec.{eqb, leb}
use borrow.Author.Tests.{leb-true, leb-false, eqb-true, eq-eqb}
use Rattle.outcomes.specs.Decided.{check, Decided}
use Rattle.outcomes.specs.declared.Refusal.{Refusal}
use Rattle.outcomes.specs.declared.Refusal.TheVariants.{Closed, Full, NoRound, RoundSet}
use Rattle.outcomes.specs.Outcome.{Outcome, unbroken}
use Rattle.std.specs.Prelude.{Err}
use Rattle.outcomes.proofs.Decisions.{decided-accepted}
use Rattle.sheet.specs.RuleSheet.{RuleSheet, outputs, accepted, read_sheet}
use Rattle.sheet.specs.ReadingChecks.{inputs_of, outputs_of}
use Rattle.sheet.proofs.Formed.{counts_of}
use Rattle.circular.specs.SheetChecks.{sheet_checks}
use Rattle.record.specs.Record.{max_rounds, record_ok}
use Rattle.record.specs.declared.JournalRecord.{JournalRecord}
use Rattle.letters.specs.Sets.{bad_set}
use Rattle.pairs.specs.Storage.{storage_words}
use Rattle.checks.specs.JournalChecks.{heard_rules, end_rules, round_rules, closing_rules, round_checks, closing_checks}
use Rattle.claims.specs.Book.{round, closing, refusal}

abbrev pub outcome_by : Option Refusal → Outcome
outcome_by none = unbroken
outcome_by (some r) = Err r

-- the sheet's own checks hold
pub record SheetOk (bs : List ℕ) (x : RuleSheet) : Type 0 where
  pub holds : Decided (sheet_checks bs) unbroken
  pub reads : read_sheet bs ≡ accepted x

module _ (bs : List ℕ) (x : RuleSheet) (ok : SheetOk bs x) (lent : ℕ) (r : JournalRecord) (enough : storage_words ≤ lent) (right : record_ok (outputs x) r ≡ true) where
  pub short : lent < storage_words → ⊥
  short b = omega arith

  pub wrong : record_ok (outputs_of bs) r ≡ false → ⊥
  wrong b = true≢false (sym right ∙ ap (λ (n : ℕ). record_ok n r) (counts_of bs x ok.reads).1 ∙ b)

  module _ (letters : ℕ) where
    sets_same : bad_set x.inputs letters ≡ bad_set (inputs_of bs) letters
    sets_same = ap (λ (m : ℕ). bad_set m letters) (counts_of bs x ok.reads).0

    many : (b : Bool) → leb max_rounds r.rounds ≡ b → Decided (check Full (max_rounds ≤ r.rounds) ∷ []) (outcome_by (cond b (some Full) none))
    many true e = inl (leb-true max_rounds r.rounds e, refl)
    many false e = inr ((λ b. let z = leb-false max_rounds r.rounds e in omega arith), refl)

    bad : (b : Bool) → bad_set x.inputs letters ≡ b
        → Decided (heard_rules (inputs_of bs) r letters) (outcome_by (cond b (some RoundSet) (cond (leb max_rounds r.rounds) (some Full) none)))
    bad true e = inl (sym sets_same ∙ e, refl)
    bad false e = inr ((λ b. false≢true (sym e ∙ sets_same ∙ b)), many (leb max_rounds r.rounds) refl)

    shut : (b : Bool) → r.closed ≡ b
        → Decided (check Closed (r.closed ≡ true) ∷ heard_rules (inputs_of bs) r letters)
        (outcome_by (cond b (some Closed) (cond (bad_set x.inputs letters) (some RoundSet) (cond (leb max_rounds r.rounds) (some Full) none))))
    shut true e = inl (e, refl)
    shut false e = inr ((λ b. false≢true (sym e ∙ b)), bad (bad_set x.inputs letters) refl)

    pub round-decided : Decided (round_checks bs lent r letters) (outcome_by (refusal x r.rounds r.closed (round letters)))
    unfolding refusal
    round-decided =
        decided-accepted (sheet_checks bs) (round_rules (inputs_of bs) (outputs_of bs) lent r letters) _ ok.holds
        (inr (short, inr (wrong, shut r.closed refl)))

  none_yet : (b : Bool) → eqb r.rounds 0 ≡ b → Decided (end_rules r) (outcome_by (cond b (some NoRound) none))
  none_yet true e = inl (eqb-true r.rounds 0 e, refl)
  none_yet false e = inr ((λ b. true≢false (sym (eq-eqb r.rounds 0 b) ∙ e)), refl)

  over : (b : Bool) → r.closed ≡ b → Decided (check Closed (r.closed ≡ true) ∷ end_rules r) (outcome_by (cond b (some Closed) (cond (eqb r.rounds 0) (some NoRound) none)))
  over true e = inl (e, refl)
  over false e = inr ((λ b. false≢true (sym e ∙ b)), none_yet (eqb r.rounds 0) refl)

  pub closing-decided : Decided (closing_checks bs lent r) (outcome_by (refusal x r.rounds r.closed closing))
  unfolding refusal
  closing-decided =
      decided-accepted (sheet_checks bs) (closing_rules (outputs_of bs) lent r) _ ok.holds (inr (short, inr (wrong, over r.closed refl)))

-- what an outcome says of the book's refusal
pub by_accepted : (o : Option Refusal) → unbroken ≡ outcome_by o → o ≡ none
by_accepted none e = refl
by_accepted (some r) e = absurd (true≢false cc)

pub by_refused : (o : Option Refusal) (r : Refusal) → Err r ≡ outcome_by o → o ≡ some r
by_refused none r e = absurd (true≢false cc)
by_refused (some q) r e = cc

-- a round that the book accepts finds room
pub rounds-left : (x : RuleSheet) (t : ℕ) (shut : Bool) (letters : ℕ) → refusal x t shut (round letters) ≡ none → t < max_rounds
unfolding refusal
rounds-left x t shut letters e = go shut (bad_set x.inputs letters) (leb max_rounds t) refl e
  where
    go : (a b c : Bool) → leb max_rounds t ≡ c → cond a (some Closed) (cond b (some RoundSet) (cond c (some Full) none)) ≡ none → t < max_rounds
    go true b c f e = absurd (true≢false cc)
    go false true c f e = absurd (true≢false cc)
    go false false true f e = absurd (true≢false cc)
    go false false false f e = leb-false max_rounds t f
