-- The verdict on several outputs together (02, W8).
-- Manual: "Completions and verdicts".
use Rattle.std.specs.Prelude.{Bool, not, ◌&&◌, List, ℕ, length}
use Rattle.outcomes.specs.declared.Verdict.{Verdict}
use Rattle.words.specs.Below.{any_below}
use Rattle.words.specs.Bits.{bit}
use Rattle.sheet.specs.RuleSheet.{RuleSheet, outputs}
use Rattle.lola.specs.Equations.{output}
use Rattle.completions.specs.Completion.{LetterSet, Completion}
use Rattle.completions.specs.Judged.{Judged, in_round}

-- a set of outputs is a test that its members pass; here given by a number: bit k says that output k is in the set
abbrev pub named : ℕ → ℕ → Bool
named w k = bit k w

-- no output of the set is false in v
unfoldable pub together : RuleSheet → (ℕ → Bool) → ℕ → Bool
together x O v = not (any_below (outputs x) (λ k. O k && not (output x k v)))

-- the verdict on all outputs of the set being true in the last of the rounds, over the completions that a round is judged by
unfoldable pub TogetherVerdict : RuleSheet → List LetterSet → (ℕ → Bool) → Verdict → Type 0
TogetherVerdict x rs O = Judged (Completion x rs) (λ ls c. in_round (length rs) (together x O) c.trace)
