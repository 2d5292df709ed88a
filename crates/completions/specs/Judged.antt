-- The four verdicts (01, "Completions and verdicts").
-- Manual: "Completions and verdicts".
use Rattle.std.specs.Prelude.{Bool, not, List, ℕ, pred, T, length, get_or}
use Rattle.outcomes.specs.declared.Verdict.{Verdict}
use Rattle.outcomes.specs.declared.Verdict.TheVariants.{False, True, Open, Broken}
use Rattle.sheet.specs.RuleSheet.{RuleSheet}
use Rattle.lola.specs.Equations.{output}
use Rattle.completions.specs.Completion.{LetterSet, Completion, Closing}

-- The verdict on a test f of the members of C: false or true if there is a member and the test fails or passes on all of them, open if
-- it passes on one and fails on another, broken if there is none.
unfoldable pub Judged : {X : Type 0} → (C : X → Type 0) → ((x : X) → C x → Bool) → Verdict → Type 0
Judged {X} C f False = ((x : X) × C x) × ((x : X) (c : C x) → T (not (f x c)))
Judged {X} C f True = ((x : X) × C x) × ((x : X) (c : C x) → T (f x c))
Judged {X} C f Open = ((x : X) × (c : C x) × T (f x c)) × ((x : X) × (c : C x) × T (not (f x c)))
Judged {X} C f Broken = (x : X) → C x → ⊥

-- a test of the valuation in round t of a trace, rounds counted from 1
unfoldable pub in_round : ℕ → (ℕ → Bool) → List ℕ → Bool
in_round t g vs = g (get_or vs (pred t) 0)

-- the verdict on output k in the last of the rounds, over their completions
unfoldable pub RoundVerdict : RuleSheet → List LetterSet → ℕ → Verdict → Type 0
RoundVerdict x rs k = Judged (Completion x rs) (λ ls c. in_round (length rs) (output x k) c.trace)

-- the same over the completions that end with the rounds
unfoldable pub ClosingVerdict : RuleSheet → List LetterSet → ℕ → Verdict → Type 0
ClosingVerdict x rs k = Judged (Closing x rs) (λ ls c. in_round (length rs) (output x k) c.complete.trace)
