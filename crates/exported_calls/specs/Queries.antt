-- A question about a set of outputs (02, W8) after a list of calls of the exported functions: what a caller in C or Rust gets back is the book's answer.
-- Manual: "Calling it".
use Rattle.std.specs.Prelude.{◌≡◌, List, [], ◌∷◌, ℕ, ◌≤◌, length, take, drop, Ok, Err}
use Rattle.outcomes.specs.Numbers.{outcome_no, verdict_no}
use Rattle.outcomes.specs.Decided.{Decided}
use Rattle.outcomes.specs.Outcome.{Outcome}
use Rattle.outcomes.specs.declared.Verdict.{Verdict}
use Rattle.sheet.specs.RuleSheet.{RuleSheet}
use Rattle.circular.specs.SheetChecks.{OfSheet}
use Rattle.completions.specs.Together.{named, TogetherVerdict}
use Rattle.claims.specs.Book.{Call, Answer, Book, empty_book, BookRun}
use Rattle.claims.specs.Queries.{book_checks}
use Rattle.jigwaret.specs.Journal.{Slices, PreparedAs, TogetherAs}
use Rattle.exported_calls.specs.Calls.{HeldSlices, Reply, slices_of, ExportedRun}

-- One call of `jigwaret_together` with the sheet bs, as its contract has it: what is held before is held after, the storage and the record being lent for
-- reading only.
abbrev pub AskedTogether : List ℕ → HeldSlices → ℕ → Reply → Type 0
AskedTogether bs h set y = TogetherAs bs h.storage set (slices_of h y h) y.number

-- by the outcome: the number of the verdict over the completions of the book's rounds, and what stands behind it is as it was; or all of the answer is
abbrev pub TogetherReply : RuleSheet → Book → ℕ → Reply → Outcome → Type 0
TogetherReply x b set y (Ok _) =
    (v : Verdict)
    × TogetherVerdict x b.rounds (named set) v
    × (take 1 y.after ≡ verdict_no v ∷ [])
    × (drop 1 y.after ≡ drop 1 y.before)
TogetherReply x b set y (Err e) = y.after ≡ y.before

-- the book's answer as the caller sees it: 0 for accepted, or the refusal's number
pub record TogetherShown (x : RuleSheet) (b : Book) (set : ℕ) (y : Reply) : Type 0 where
  pub outcome : Outcome
  pub decided : Decided (book_checks x b set) outcome
  pub number : y.number ≡ outcome_no outcome
  pub shown : TogetherReply x b set y outcome

-- After one `jigwaret_prepare` with the sheet bs that returned 0, whatever the storage s and the slices held, and any list of `jigwaret_round` and
-- `jigwaret_close` with that sheet, every `jigwaret_together` with an answer slice of at least 16 numbers, handed what is then held, shows the book's
-- answer.
abbrev pub ExportedTogether : Type 0
ExportedTogether =
    (bs s t : List ℕ) (z : Slices) → PreparedAs bs s t z 0
    → (cs : List Call) (ys : List Reply) (k : HeldSlices) → ExportedRun bs (record { storage = t; numbers = z.rec' }) cs ys k
    → OfSheet bs (λ x. (as' : List Answer) × (b : Book) × BookRun x empty_book cs as' b
    × ((set : ℕ) (y : Reply) → 16 ≤ length y.before → AskedTogether bs k set y → TogetherShown x b set y))
