-- Questions about several outputs together (02, W8), as types: their answers after any list of calls, and what a set's verdict has to do with those of its
-- outputs.
-- Manual: "Completions and verdicts".
use Rattle.std.specs.Prelude.{◌≡◌, Bool, true, List, [], ◌∷◌, ◌++◌, ◌⊎◌, ◌↔◌, ℕ, ◌^◌, ◌≤◌, ◌<◌, length}
use Rattle.outcomes.specs.Decided.{Check, check, Decided}
use Rattle.outcomes.specs.declared.Refusal.TheVariants.{Closed, NoRound}
use Rattle.outcomes.specs.Outcome.{unbroken}
use Rattle.outcomes.specs.declared.Verdict.{Verdict}
use Rattle.outcomes.specs.declared.Verdict.TheVariants.{False, True, Broken}
use Rattle.sheet.specs.RuleSheet.{RuleSheet, outputs, streams}
use Rattle.circular.specs.SheetChecks.{OfSheet}
use Rattle.completions.specs.Completion.{LetterSet}
use Rattle.completions.specs.Judged.{RoundVerdict}
use Rattle.completions.specs.Together.{named, TogetherVerdict}
use Rattle.checks.specs.JournalChecks.{names_beyond}
use Rattle.effects.specs.declared.PrepareAnswer.{PrepareAnswer}
use Rattle.monitor.specs.Entries.{PrepareCall}
use Rattle.queries.specs.Together.{TogetherCall}
use Rattle.queries.specs.declared.TogetherAnswer.{TogetherAnswer}
use Rattle.claims.specs.Book.{Call, Answer, Book, empty_book, BookRun}
use Rattle.claims.specs.Session.{Held, held, Session}

-- what a question about a set of outputs is refused for, told by the book: 12, 24, 14
abbrev pub book_checks : RuleSheet → Book → ℕ → List Check
book_checks x b set =
    check Closed (b.shut ≡ true)
    ∷ (names_beyond (outputs x) set
    ∷ (check NoRound (length b.rounds ≡ 0)
    ∷ []))

-- the answer to it is the book's: refused as the book has it, or the verdict over the completions of the book's rounds
pub record TogetherRight (x : RuleSheet) (b : Book) (set : ℕ) (a : TogetherAnswer) : Type 0 where
  pub decided : Decided (book_checks x b set) a.outcome
  pub verdict : a.outcome ≡ unbroken → TogetherVerdict x b.rounds (named set) a.verdict

-- After one accepted preparation with the sheet bs, whatever the storage s held, and any list of rounds and closings with that sheet, refused ones
-- included, every question about a set of outputs, handed what is then held, is answered by the book. A question alters nothing, so a list with questions
-- in it is the list without them.
abbrev pub TogetherAnswered : Type 0
TogetherAnswered =
    (bs s t : List ℕ) (p : PrepareAnswer) → PrepareCall bs s t p → p.outcome ≡ unbroken
    → (cs : List Call) (as' : List Answer) (h : Held) → Session bs (held t p.record) cs as' h
    → OfSheet bs (λ x. (b : Book) × BookRun x empty_book cs as' b
    × ((set : ℕ) (a : TogetherAnswer) → TogetherCall bs h.storage h.record set a → TogetherRight x b set a))

-- no two verdicts fit a set of outputs, and one does, whatever was heard
abbrev pub OneTogether : Type 0
OneTogether = (x : RuleSheet) (rs : List LetterSet) (O : ℕ → Bool) (v w : Verdict) → TogetherVerdict x rs O v → TogetherVerdict x rs O w → v ≡ w

abbrev pub SomeTogether : Type 0
SomeTogether = (x : RuleSheet) → streams x ≤ 8 → (r : LetterSet) (rs : List LetterSet) (O : ℕ → Bool) → (v : Verdict) × TogetherVerdict x (r ∷ rs) O v

-- a set of one output has the output's verdict
abbrev pub SetOfOne : Type 0
SetOfOne = (x : RuleSheet) (rs : List LetterSet) (k : ℕ) → k < outputs x → (v : Verdict) → TogetherVerdict x rs (named (2 ^ k)) v ↔ RoundVerdict x rs k v

-- the empty set is true, or broken
abbrev pub EmptySet : Type 0
EmptySet = (x : RuleSheet) (rs : List LetterSet) (v : Verdict) → TogetherVerdict x rs (named 0) v → (v ≡ True) ⊎ (v ≡ Broken)

-- every set, the empty one too, is broken exactly if the last round is broken, on whichever output, and then it stays so
pub record BrokenSets : Type 0 where
  pub with_the_round : (x : RuleSheet) (rs : List LetterSet) (O : ℕ → Bool) (k : ℕ) → TogetherVerdict x rs O Broken ↔ RoundVerdict x rs k Broken
  pub later : (x : RuleSheet) (rs : List LetterSet) (r : LetterSet) (O P : ℕ → Bool) → TogetherVerdict x rs O Broken → TogetherVerdict x (rs ++ r ∷ []) P Broken

-- What the verdicts on its outputs say of a set with an output: it is false if one of them is, and true exactly if all of them are. Otherwise, if it isn't
-- broken, it is false or open, and they don't tell which: `examples` has one of each.
pub record FromOutputs : Type 0 where
  pub one_false : (x : RuleSheet) (rs : List LetterSet) (O : ℕ → Bool) (k : ℕ) → k < outputs x → O k ≡ true
      → RoundVerdict x rs k False → TogetherVerdict x rs O False
  pub each_true : (x : RuleSheet) (rs : List LetterSet) (O : ℕ → Bool) (k : ℕ) → k < outputs x → O k ≡ true
      → TogetherVerdict x rs O True → RoundVerdict x rs k True
  pub all_true : (x : RuleSheet) (rs : List LetterSet) (O : ℕ → Bool) (k : ℕ) → k < outputs x → O k ≡ true
      → ((j : ℕ) → j < outputs x → O j ≡ true → RoundVerdict x rs j True) → TogetherVerdict x rs O True
