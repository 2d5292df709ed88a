-- The demands as types; their proofs are in proofs/.
-- Manual: "Refusals", "The language", "Completions and verdicts".
use Rattle.std.specs.Prelude.{◌≡◌, List, ℕ, length, take, Ok, Err}
use Rattle.outcomes.specs.Decided.{Check, Decided}
use Rattle.outcomes.specs.declared.Refusal.{Refusal}
use Rattle.outcomes.specs.Outcome.{Outcome, unbroken}
use Rattle.lola.specs.Equations.{Letters, joined}
use Rattle.circular.specs.SheetChecks.{OfSheet, sheet_checks}
use Rattle.circular.specs.Unique.{TraceOf, OneTrace}
use Rattle.trace.specs.EvaluationChecks.{evaluation_checks}
use Rattle.trace.specs.Evaluated.{EvaluateCall}
use Rattle.record.specs.declared.JournalRecord.{JournalRecord}
use Rattle.letters.specs.Sets.{mask_checks, MasksCall}
use Rattle.checks.specs.JournalChecks.{prepare_checks, round_checks, closing_checks, together_checks}
use Rattle.effects.specs.declared.PrepareAnswer.{PrepareAnswer}
use Rattle.effects.specs.declared.RoundAnswer.{RoundAnswer}
use Rattle.effects.specs.declared.ClosingAnswer.{ClosingAnswer}
use Rattle.monitor.specs.Entries.{PrepareCall, RoundCall, CloseCall}
use Rattle.claims.specs.Book.{Call, Answer, Book, empty_book, BookRun}
use Rattle.claims.specs.Session.{Held, held, Session, Matches}

-- the checks decide one outcome, and no other
pub record OneOutcome (cs : List Check) : Type 0 where
  pub outcome : Outcome
  pub decided : Decided cs outcome
  pub only : (o : Outcome) → Decided cs o → o ≡ outcome

-- The first demand (01, "What is turned down"; 02, W4 and W8), for each entry on structs and all that it can be handed: one outcome is decided, no other,
-- and with a refusal everything lent or handed in is what it was; masks, which lend nothing, then make no set, and a question about a set
-- of outputs only reads. What an accepted call gives is in the definitions of the calls.
pub record FirstDemand : Type 0 where
  pub check : (bs : List ℕ) → OneOutcome (sheet_checks bs)
  pub evaluation : (bs ls old : List ℕ) → OneOutcome (evaluation_checks bs ls (length old))
  pub evaluation_refused : (bs ls old new : List ℕ) (e : Refusal) → EvaluateCall bs ls old new (Err e) → new ≡ old
  pub preparation : (bs s : List ℕ) → OneOutcome (prepare_checks bs (length s))
  pub preparation_refused : (bs s t : List ℕ) (a : PrepareAnswer) (e : Refusal) → PrepareCall bs s t a → a.outcome ≡ Err e → t ≡ s
  pub letters : (m known val : ℕ) → OneOutcome (mask_checks m known val)
  pub letters_refused : (m known val w : ℕ) (e : Refusal) → MasksCall m known val (Err e) → MasksCall m known val (Ok w) → ⊥
  pub round : (bs s : List ℕ) (r : JournalRecord) (letters : ℕ) → OneOutcome (round_checks bs (length s) r letters)
  pub round_refused : (bs s t : List ℕ) (r : JournalRecord) (letters : ℕ) (a : RoundAnswer) (e : Refusal)
      → RoundCall bs s t r letters a → a.outcome ≡ Err e → (t ≡ s) × (a.record ≡ r)
  pub closing : (bs s : List ℕ) (r : JournalRecord) → OneOutcome (closing_checks bs (length s) r)
  pub closing_refused : (bs s : List ℕ) (r : JournalRecord) (a : ClosingAnswer) (e : Refusal)
      → CloseCall bs s r a → a.outcome ≡ Err e → a.record ≡ r
  pub together : (bs s : List ℕ) (r : JournalRecord) (set : ℕ) → OneOutcome (together_checks bs (length s) r set)

-- The second demand, for the language (01, "Whole traces"): bytes that rules 1 to 10 accept are a sheet, and for every list of letters exactly
-- one trace satisfies all equations. N is the length of ls, and there is no bound on it.
abbrev pub UniqueTraces : Type 0
UniqueTraces = (bs : List ℕ) → Decided (sheet_checks bs) unbroken → OfSheet bs (λ x. (ls : List ℕ) → Letters x.inputs ls → OneTrace x ls)

-- The second demand, for evaluation (01, "Whole traces"): what an accepted evaluation of the letters ls writes makes with them a trace of the
-- sheet, and there is no other. Which sheets are circular is said by `circular/specs/Circular.antt` and decided by rule 10.
abbrev pub SecondDemand : Type 0
SecondDemand =
    (bs ls old new : List ℕ) → EvaluateCall bs ls old new unbroken
    → OfSheet bs (λ x. TraceOf x ls (joined x.inputs ls (take (length ls) new))
    × ((vs : List ℕ) → TraceOf x ls vs → vs ≡ joined x.inputs ls (take (length ls) new)))

-- The third demand (01, "Completions and verdicts"): after one accepted preparation with the sheet bs, whatever the storage s held, for
-- every list of rounds and closings with that sheet, refused ones included, the answers are the book's, and the record afterwards is the
-- book's too.
abbrev pub ThirdDemand : Type 0
ThirdDemand =
    (bs s t : List ℕ) (p : PrepareAnswer) → PrepareCall bs s t p → p.outcome ≡ unbroken
    → (cs : List Call) (as' : List Answer) (h : Held) → Session bs (held t p.record) cs as' h
    → OfSheet bs (λ x. (b : Book) × BookRun x empty_book cs as' b × Matches x b h.record)
