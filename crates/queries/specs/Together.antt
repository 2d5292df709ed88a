-- What a question about a set of outputs means (02, W8), on any storage and any record: how it is decided, and by the outcome the verdict, or none but
-- the refusal. On storage that preparation never filled, the verdict is read off the reached set found there; pairs beyond the sheet's valuations don't
-- count. Nothing is lent for writing or given back, so nothing alters.
-- Manual: "Completions and verdicts", "Refusals".
use Rattle.std.specs.Prelude.{◌≡◌, List, ℕ, length, Ok, Err}
use Rattle.outcomes.specs.Decided.{Decided}
use Rattle.outcomes.specs.Outcome.{Outcome}
use Rattle.outcomes.specs.declared.Verdict.TheVariants.{False}
use Rattle.sheet.specs.RuleSheet.{RuleSheet}
use Rattle.circular.specs.SheetChecks.{OfSheet}
use Rattle.record.specs.declared.JournalRecord.{JournalRecord}
use Rattle.completions.specs.Steps.{pairs_verdict}
use Rattle.completions.specs.Together.{named, together}
use Rattle.pairs.specs.Storage.{reached}
use Rattle.checks.specs.JournalChecks.{together_checks}
use Rattle.effects.specs.Results.{width}
use Rattle.queries.specs.declared.TogetherAnswer.{TogetherAnswer}

-- the verdict on all outputs of the set, over the pairs of the reached set in the storage s
abbrev pub TogetherDone : RuleSheet → List ℕ → ℕ → TogetherAnswer → Type 0
TogetherDone x s set a = a.verdict ≡ pairs_verdict (width x) (reached s) (together x (named set))

-- a question with the sheet bs, by the outcome: that verdict, or false with a refusal
abbrev pub Answers : List ℕ → List ℕ → ℕ → TogetherAnswer → Outcome → Type 0
Answers bs s set a (Ok _) = OfSheet bs (λ x. TogetherDone x s set a)
Answers bs s set a (Err e) = a.verdict ≡ False

pub record TogetherCall (bs s : List ℕ) (r : JournalRecord) (set : ℕ) (a : TogetherAnswer) : Type 0 where
  pub decided : Decided (together_checks bs (length s) r set) a.outcome
  pub result : Answers bs s set a a.outcome
