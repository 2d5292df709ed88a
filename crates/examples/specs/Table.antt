-- The marked examples a to l (01, "Marked examples of the language"): sheet bytes in, answers out.
-- Manual: "Worked examples".
use Rattle.std.specs.Prelude.{◌≡◌, List, [], ◌∷◌, ℕ, ◌^◌, ◌<◌, length, get_or, Err}
use Rattle.std.proofs.Math.Option.{some}
use Rattle.std.proofs.Math.ListN.{get_elem?}
use Rattle.outcomes.specs.Numbers.{refusal_no}
use Rattle.outcomes.specs.Decided.{Decided}
use Rattle.outcomes.specs.declared.Refusal.{Refusal}
use Rattle.outcomes.specs.Outcome.{Outcome, unbroken}
use Rattle.outcomes.specs.declared.Verdict.{Verdict}
use Rattle.outcomes.specs.declared.Verdict.TheVariants.{False, True, Open, Broken}
use Rattle.sheet.specs.RuleSheet.{RuleSheet, outputs, accepted, read_sheet}
use Rattle.lola.specs.Equations.{joined}
use Rattle.circular.specs.SheetChecks.{sheet_checks}
use Rattle.circular.specs.Unique.{TraceOf}
use Rattle.completions.specs.Live.{Pairs, Live, count_pairs}
use Rattle.completions.specs.Completion.{LetterSet, masked}
use Rattle.completions.specs.Judged.{RoundVerdict, ClosingVerdict}
use Rattle.completions.specs.Steps.{Represents}
use Rattle.claims.specs.Book.{Each}

pub data Case : Type 0 where
  -- a sheet, and the verdicts of its outputs after one round in which nothing is heard
  judged : List ℕ → List Verdict → Case
  -- a sheet, and the verdicts of its outputs on closing after that round
  closing : List ℕ → List Verdict → Case
  -- a sheet that is refused, and the number of the refusal
  turned_down : List ℕ → ℕ → Case
  -- a sheet and the number of its live pairs
  lives : List ℕ → ℕ → Case
  -- a sheet, letters, and the bytes that they evaluate to
  values : List ℕ → List ℕ → List ℕ → Case

-- a round in which nothing is heard
abbrev pub unheard : LetterSet
unheard = masked 0 0

-- what rules 1 to 10 make of a sheet's bytes (01, "What is turned down")
abbrev pub SheetOutcome : List ℕ → Outcome → Type 0
SheetOutcome bs o = Decided (sheet_checks bs) o

-- the bytes break none of them, and are the sheet x
pub record AcceptedAs (bs : List ℕ) (x : RuleSheet) : Type 0 where
  pub decided : SheetOutcome bs unbroken
  pub read : read_sheet bs ≡ accepted x

-- the letters ls evaluate to the bytes os (01, "Whole traces"): one byte for each letter, bit k of a byte being output k and no other bit set;
-- with the letters they are a trace of the sheet, and there is no other
pub record EvaluatesTo (x : RuleSheet) (ls os : List ℕ) : Type 0 where
  pub size : length os ≡ length ls
  pub bytes : (i : ℕ) → i < length os → get_or os i 0 < 2 ^ outputs x
  pub trace : TraceOf x ls (joined x.inputs ls os)
  pub only : (vs : List ℕ) → TraceOf x ls vs → vs ≡ joined x.inputs ls os

-- What a case says. All but a refused sheet is accepted; a list of verdicts has one for each output.
abbrev pub Holds : Case → Type 0
Holds (judged bs vs) = (x : RuleSheet) × AcceptedAs bs x × Each (outputs x) (RoundVerdict x (unheard ∷ [])) vs
Holds (closing bs vs) = (x : RuleSheet) × AcceptedAs bs x × Each (outputs x) (ClosingVerdict x (unheard ∷ [])) vs
Holds (turned_down bs n) = (r : Refusal) × SheetOutcome bs (Err r) × (refusal_no r ≡ n)
Holds (lives bs n) = (x : RuleSheet) × AcceptedAs bs x × (L : Pairs) × Represents 256 L (Live x) × (count_pairs 256 L ≡ n)
Holds (values bs ls os) = (x : RuleSheet) × AcceptedAs bs x × EvaluatesTo x ls os

-- a sheet of one input: the number of outputs, the assumption's byte, and the outputs with their lengths
unfoldable pub one_input : ℕ → ℕ → List ℕ → List ℕ
one_input n a body = 0x53 ∷ 0x4C ∷ 0x52 ∷ 0x01 ∷ 0x00 ∷ 0x01 ∷ n ∷ a ∷ body

-- the sheet of the whole session
unfoldable pub session : List ℕ
session =
    0x53 ∷ 0x4C ∷ 0x52 ∷ 0x01 ∷ 0x00 ∷ 0x02 ∷ 0x02 ∷ 0x01
    ∷ 0x06 ∷ 0x40 ∷ 0x02 ∷ 0x41 ∷ 0x04 ∷ 0x61 ∷ 0x04
    ∷ 0x06 ∷ 0x41 ∷ 0x02 ∷ 0x40 ∷ 0x04 ∷ 0x50 ∷ 0x04 ∷ []

unfoldable pub table : List Case
table =
    -- a, b, c
    judged (one_input 1 255 (1 ∷ 0x69 ∷ [])) (True ∷ [])
    ∷ judged (one_input 1 255 (1 ∷ 0x61 ∷ [])) (False ∷ [])
    ∷ judged (one_input 1 255 (1 ∷ 0x51 ∷ [])) (False ∷ [])
    -- d
    ∷ judged (one_input 1 255 (4 ∷ 0x68 ∷ 0x60 ∷ 0x02 ∷ 0x03 ∷ [])) (Open ∷ [])
    ∷ closing (one_input 1 255 (4 ∷ 0x68 ∷ 0x60 ∷ 0x02 ∷ 0x03 ∷ [])) (True ∷ [])
    -- e, f
    ∷ turned_down (one_input 2 255 (1 ∷ 0x52 ∷ 1 ∷ 0x61 ∷ [])) 10
    ∷ turned_down (one_input 1 255 (3 ∷ 0x51 ∷ 0x61 ∷ 0x03 ∷ [])) 10
    -- g
    ∷ judged (one_input 1 255 (4 ∷ 0x40 ∷ 0x40 ∷ 0x02 ∷ 0x04 ∷ [])) (True ∷ [])
    -- h, i
    ∷ judged (one_input 2 1 (1 ∷ 0x40 ∷ 4 ∷ 0x40 ∷ 0x02 ∷ 0x60 ∷ 0x04 ∷ [])) (False ∷ True ∷ [])
    ∷ judged (one_input 2 1 (1 ∷ 0x40 ∷ 4 ∷ 0x40 ∷ 0x02 ∷ 0x68 ∷ 0x04 ∷ [])) (Open ∷ True ∷ [])
    -- j
    ∷ judged (one_input 1 0 (1 ∷ 0x00 ∷ [])) (Broken ∷ [])
    -- k
    ∷ lives (one_input 1 255 (1 ∷ 0x40 ∷ [])) 12
    ∷ lives (one_input 1 0 (1 ∷ 0x40 ∷ [])) 4
    -- l
    ∷ values session (1 ∷ 2 ∷ 0 ∷ []) (3 ∷ 3 ∷ 3 ∷ [])
    ∷ values session (1 ∷ []) (2 ∷ [])
    ∷ []

-- every case of the table holds
abbrev pub Examples : Type 0
Examples = (i : ℕ) (c : Case) → get_elem? table i ≡ some c → Holds c

-- and no other answers do: two cases of one kind that hold of the same bytes, and of the same letters, have the same answer, and no bytes are
-- both refused and accepted
abbrev pub OneAnswer : Type 0
OneAnswer =
    (bs : List ℕ)
    → ((vs ws : List Verdict) → Holds (judged bs vs) → Holds (judged bs ws) → vs ≡ ws)
    × ((vs ws : List Verdict) → Holds (closing bs vs) → Holds (closing bs ws) → vs ≡ ws)
    × ((n k : ℕ) → Holds (turned_down bs n) → Holds (turned_down bs k) → n ≡ k)
    × ((n k : ℕ) → Holds (lives bs n) → Holds (lives bs k) → n ≡ k)
    × ((ls os ps : List ℕ) → Holds (values bs ls os) → Holds (values bs ls ps) → os ≡ ps)
    × ((n : ℕ) (x : RuleSheet) → Holds (turned_down bs n) → AcceptedAs bs x → ⊥)
