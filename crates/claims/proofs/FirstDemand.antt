-- The first demand: every entry's checks decide one outcome and no other, and a refusal leaves what was lent or handed in.
use mathlib.Core.Path.{◌≡◌, refl, sym, subst, ◌∙◌}
use mathlib.Core.Bool.{Bool, true, false, false≢true}
use mathlib.Core.Logic.{◌⊎◌, inl, inr}
use mathlib.Core.List.{List, [], ◌∷◌}
use Prim.Native.Nat.{ℕ, zero, suc, ◌/◌, ◌^◌, ◌≤◌, ◌<◌}
use native.Mathlib.Omega.{arith}
use native.Mathlib.Decide.{ℕ_discrete, dec_lt}
use lib.ListN.{length}
use Rattle.outcomes.specs.Decided.{Check}
use Rattle.std.specs.Prelude.{Err}
use Rattle.outcomes.specs.Outcome.{unbroken}
use Rattle.outcomes.proofs.NumberLaws.{not-both}
use Rattle.outcomes.proofs.Decisions.{Decidable, decidable_both, decided-some, decided_once}
use Rattle.words.proofs.BitLaws.{some-beyond, none-beyond}
use Rattle.sheet.specs.RuleSheet.{Reading, refused, accepted, outputs, read_sheet}
use Rattle.sheet.proofs.Formed.{one-sheet}
use Rattle.sheet.specs.ReadingChecks.{inputs_of, outputs_of, length_at, byte_checks, output_checks, reading_checks}
use Rattle.circular.specs.Circular.{CircularSheet, edges}
use Rattle.circular.specs.SheetChecks.{OfSheet, sheet_checks}
use Rattle.circular.proofs.Decide.{circular?, circular?_true, circular?_of}
use Rattle.trace.specs.EvaluationChecks.{letter_checks, run_checks}
use Rattle.record.specs.Record.{record_ok}
use Rattle.record.specs.declared.JournalRecord.{JournalRecord}
use Rattle.completions.specs.Together.{named}
use Rattle.letters.specs.Sets.{bad_set, mask_checks}
use Rattle.checks.specs.JournalChecks.{too_short, journal_rules, heard_rules, end_rules, named_rules, round_rules, closing_rules, together_rules}
use Rattle.monitor.specs.Entries.{Prepares, Rounds, Closes}
use Rattle.claims.specs.Demands.{OneOutcome, FirstDemand}

-- checks that can be tested decide one outcome
settled : (cs : List Check) → Decidable cs → OneOutcome cs
settled cs d =
    let z = decided-some cs d in
    record { outcome = z.0; decided = z.1; only = λ o h. decided_once cs o z.0 h z.1 }

-- ---- every check can be tested

is : (t u : Bool) → Dec (t ≡ u)
is true true = yes refl
is true false = no (λ e. false≢true (sym e))
is false true = no false≢true
is false false = yes refl

bytes_tested : (bs : List ℕ) (k i r : ℕ) → Decidable (byte_checks bs k i r)
unfolding byte_checks
bytes_tested bs k i zero = tt
bytes_tested bs k i (suc r) = (is _ true, (is _ true, bytes_tested bs k (suc i) r))

outputs_tested : (bs : List ℕ) (k r : ℕ) → Decidable (output_checks bs k r)
unfolding output_checks
outputs_tested bs k zero = tt
outputs_tested bs k (suc r) = (is _ true, decidable_both (byte_checks bs k 0 (length_at bs k)) _ (bytes_tested bs k 0 (length_at bs k)) (is _ true, outputs_tested bs (suc k) r))

reading_tested : (bs : List ℕ) → Decidable (reading_checks bs)
unfolding reading_checks
reading_tested bs =
    (is _ true, (is _ true, (is _ true, (is _ true, (is _ true, decidable_both (output_checks bs 0 (outputs_of bs)) _ (outputs_tested bs 0 (outputs_of bs)) (is _ true, tt))))))

circular_tested : (bs : List ℕ) → Dec (OfSheet bs CircularSheet)
circular_tested bs = go (read_sheet bs) refl
  where
    go : (r : Reading) → read_sheet bs ≡ r → Dec (OfSheet bs CircularSheet)
    go (refused q) e = no (λ z. false≢true (let f : refused q ≡ accepted z.0 = sym e ∙ z.1 in cc))
    go (accepted x) e = test (circular? (outputs x) (edges x)) refl
      where
        test : (t : Bool) → circular? (outputs x) (edges x) ≡ t → Dec (OfSheet bs CircularSheet)
        test true f = yes (x, e, circular?_true (outputs x) (edges x) f)
        test false f = no (λ z. false≢true (sym f ∙ circular?_of (outputs x) (edges x) (subst CircularSheet (one-sheet bs z.0 x z.1 e) z.2)))

sheet_tested : (bs : List ℕ) → Decidable (sheet_checks bs)
sheet_tested bs = decidable_both (reading_checks bs) _ (reading_tested bs) (circular_tested bs, tt)

at_least : (a b : ℕ) → Dec (a ≤ b)
at_least a b = go (dec_lt b a)
  where
    go : Dec (b < a) → Dec (a ≤ b)
    go (yes h) = no (λ g. omega arith)
    go (no h) = yes (omega arith)

either : {A B : Type 0} → Dec A → Dec B → Dec (A ⊎ B)
either (yes a) q = yes (inl a)
either (no a) (yes b) = yes (inr b)
either {A} {B} (no a) (no b) = no neither
  where
    neither : A ⊎ B → ⊥
    neither (inl x) = a x
    neither (inr y) = b y

letters_tested : (m : ℕ) (ls : List ℕ) → Decidable (letter_checks m ls)
unfolding letter_checks
letters_tested m [] = tt
letters_tested m (l ∷ ls) = (at_least (2 ^ m) l, letters_tested m ls)

run_tested : (m : ℕ) (ls : List ℕ) (room : ℕ) → Decidable (run_checks m ls room)
run_tested m ls room = (either (ℕ_discrete (length ls) 0) (either (dec_lt 4096 (length ls)) (dec_lt room (length ls))), letters_tested m ls)

journal_tested : (n lent : ℕ) (r : JournalRecord) → Decidable (journal_rules n lent r)
journal_tested n lent r = (dec_lt lent _, (is (record_ok n r) false, (is r.closed true, tt)))

round_tested : (m n lent : ℕ) (r : JournalRecord) (letters : ℕ) → Decidable (round_rules m n lent r letters)
round_tested m n lent r letters =
    decidable_both (journal_rules n lent r) (heard_rules m r letters) (journal_tested n lent r) (is (bad_set m letters) true, (at_least _ r.rounds, tt))

closing_tested : (n lent : ℕ) (r : JournalRecord) → Decidable (closing_rules n lent r)
closing_tested n lent r = decidable_both (journal_rules n lent r) (end_rules r) (journal_tested n lent r) (ℕ_discrete r.rounds 0, tt)

named_tested : (n set : ℕ) → Dec ((k : ℕ) × (n ≤ k) × (named set k ≡ true))
named_tested n set = go (ℕ_discrete (set / 2 ^ n) 0)
  where
    go : Dec (set / 2 ^ n ≡ 0) → Dec ((k : ℕ) × (n ≤ k) × (named set k ≡ true))
    go (yes e) = no (none-beyond n set e)
    go (no e) = yes (some-beyond n set e)

together_tested : (n lent : ℕ) (r : JournalRecord) (set : ℕ) → Decidable (together_rules n lent r set)
together_tested n lent r set =
    decidable_both (journal_rules n lent r) (named_rules n r set) (journal_tested n lent r) (named_tested n set, (ℕ_discrete r.rounds 0, tt))

-- ---- the demand

pub first_demand : FirstDemand
first_demand = record {
  check = λ bs. settled _ (sheet_tested bs);
  evaluation = λ bs ls old. settled _ (decidable_both (sheet_checks bs) _ (sheet_tested bs) (run_tested (inputs_of bs) ls (length old)));
  evaluation_refused = λ bs ls old new e z. z.result;
  preparation = λ bs s. settled _ (decidable_both (sheet_checks bs) (too_short (length s) ∷ []) (sheet_tested bs) (dec_lt (length s) _, tt));
  preparation_refused = λ bs s t a e z o. (subst (Prepares bs s t a) o z.result).0;
  letters = λ m known val. settled (mask_checks m known val) (is _ true, (is _ true, tt));
  letters_refused = λ m known val w e y z. not-both (decided_once (mask_checks m known val) (Err e) unbroken y.decided z.decided);
  round = λ bs s r letters. settled _ (decidable_both (sheet_checks bs) _ (sheet_tested bs) (round_tested (inputs_of bs) (outputs_of bs) (length s) r letters));
  round_refused = λ bs s t r letters a e z o. let y = subst (Rounds bs s t r letters a) o z.result in (y.0, y.1);
  closing = λ bs s r. settled _ (decidable_both (sheet_checks bs) _ (sheet_tested bs) (closing_tested (outputs_of bs) (length s) r));
  closing_refused = λ bs s r a e z o. (subst (Closes bs s r a) o z.result).0;
  together = λ bs s r set. settled _ (decidable_both (sheet_checks bs) _ (sheet_tested bs) (together_tested (outputs_of bs) (length s) r set));
}
